-- The planted engine: what it answers, and its transcripts.
use Rattle.std.specs.Prelude.{◌≡◌, ℕ, List, [], ◌∷◌, Option, Some, None}
use Rattle.erm_client.specs.Dealings.{HasNone}
use Rattle.erm_client.specs.declared.transcript.Standing.TheVariants as standing
use Rattle.erm_client.specs.declared.transcript.Transcript.{Transcript}
use Rattle.erm_client.specs.Transcripts.{IsTranscript}
use Rattle.erm_report.specs.declared.answer.Answer.{Answer}
use Rattle.erm_report.specs.declared.answer.Answer.TheVariants as answer

-- it has no safe snapshots, and excludes nothing
abbrev pub IsOfPlanted : Answer → Type 0
IsOfPlanted (answer.Began begin) = Unit {0}
IsOfPlanted (answer.Replied reply) = Unit {0}
IsOfPlanted (answer.Committed stamp succ pred) = Unit {0}
IsOfPlanted answer.Aborted = Unit {0}
IsOfPlanted (answer.Newer stamp) = Unit {0}
IsOfPlanted answer.NotIdle = Unit {0}
IsOfPlanted answer.NoTransaction = Unit {0}
IsOfPlanted answer.ReadsFull = Unit {0}
IsOfPlanted answer.WritesFull = Unit {0}
IsOfPlanted a = ⊥

-- a transcript of a session that may be asked, and has no snapshot
pub record IsTold (c : Transcript) : Type 0 where
  pub ok : IsTranscript c
  pub opened : c.standing ≡ standing.Open
  pub none : HasNone c

-- what a scan finds of a customer's account
abbrev pub found_of : ℕ → Option (List ℕ) → List (ℕ × List ℕ)
found_of customer None = []
found_of customer (Some value) = (customer, value) ∷ []
