-- A row as the log stores it: up to its last word that isn't 0.
use Rattle.std.specs.Prelude.{ℕ, ◌+◌, ◌==◌, ◌&&◌, if◌then◌else◌, List, [], ◌∷◌, sum_by}
use Rattle.erm_model.specs.declared.limits.TheConstants.{LEAST_BLOCK}

-- the length of a row up to its last word that isn't 0
abbrev pub stored_length : List ℕ → ℕ
stored_length [] = 0
stored_length (word ∷ words) =
    let rest : ℕ = stored_length words in if word == 0 && rest == 0 then 0 else rest + 1

-- how many words a row takes in a block of the log: its object's number, with the length, and so many words
abbrev pub stored_words : List ℕ → ℕ
stored_words row = stored_length row + 1

-- how many words a block with these rows has
abbrev pub block_words : List (List ℕ) → ℕ
block_words rows = LEAST_BLOCK + sum_by stored_words rows
