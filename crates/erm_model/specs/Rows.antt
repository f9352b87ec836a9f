-- Rows by object.
use Rattle.std.specs.Prelude.{ℕ, ◌==◌, if◌then◌else◌, List, [], slice_index_or}

-- an array of rows, by object
abbrev pub Rows : Type 0
Rows = ℕ → List ℕ

-- the rows after an object's row is set
abbrev pub set_row : Rows → ℕ → List ℕ → Rows
set_row rows oid row = λ x. if x == oid then row else rows x

-- a list of rows as an array: the row of each object in its place
abbrev pub rows_of : List (List ℕ) → Rows
rows_of list = λ x. slice_index_or list x []
