-- What a session keeps to go back to its savepoints, and what it means.
use Rattle.std.specs.Prelude.{ℕ, Bool, if◌then◌else◌, List, [], ◌∷◌, slice_index_or, Option, Some, None}

-- Of each claim the row that it found, and whether a write has set its row; and of each savepoint held, the oldest first, of each claim
-- that there was the row that a write had set, if one had.
pub record KeptSaves : Type 0 where
  pub found : List (List ℕ)
  pub is_set : List Bool
  pub points : List (List (Option (List ℕ)))

-- no claim, and no savepoint
abbrev pub no_saves : KeptSaves
no_saves = record { found = []; is_set = []; points = [] }

-- a row, where a write has set it
abbrev pub row_set : List ℕ → Bool → Option (List ℕ)
row_set row is_set = if is_set then Some row else None

-- of these rows those that a write has set
abbrev pub rows_set : List (List ℕ) → List Bool → List (Option (List ℕ))
rows_set [] bs = []
rows_set (row ∷ rows) [] = []
rows_set (row ∷ rows) (b ∷ bs) = row_set row b ∷ rows_set rows bs

-- the row that a write had set of the claim at a place, if it was there and one had
abbrev pub row_saved : List (Option (List ℕ)) → ℕ → Option (List ℕ)
row_saved saved place = slice_index_or saved place None
