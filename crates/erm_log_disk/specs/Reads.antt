-- What reading words of the log answers.
use Rattle.std.specs.Prelude.{◌≡◌, ℕ, ◌≤◌, List, length, take, Option, IfSome, Result, IfOk}
use Rattle.erm_outside.specs.Disk.{Step, contents}
use Rattle.erm_log_words.specs.Words.{log_words, words_from}

-- n words were read into a buffer: the log's from a place on, as many as fit, up to the first that isn't there
abbrev pub ReadsWords : Option (List Step) → ℕ → ℕ → ℕ → List ℕ → Type 0
ReadsWords told at room n words = IfSome told (λ steps. take n words ≡ take room (log_words (contents steps) at))

-- the same of what a call answered
abbrev pub ReadsLog : {E : Type 0} → Result ℕ E → Option (List Step) → ℕ → ℕ → List ℕ → Type 0
ReadsLog result told at room words = IfOk result (λ n. ReadsWords told at room n words)

-- the same of a run of words that lie before the log's end
abbrev pub ReadsRun : Option (List Step) → ℕ → ℕ → ℕ → List ℕ → Type 0
ReadsRun told at room n words = IfSome told (λ steps. take n words ≡ words_from (contents steps) at room)
