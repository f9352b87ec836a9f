-- The rows of records: that there is no value, or which value there is.
use Rattle.std.specs.Prelude.{◌≡◌, ℕ, ◌-◌, ◌≤◌, ◌⊎◌, nat_eq, if◌then◌else◌, List, ◌∷◌, ◌++◌, length, take, drop, replicate, slice_index, Option, Some, None}
use Rattle.std.specs.Cmp.Lexicographic.{pointwise}
use Rattle.erm_model.specs.declared.value.TheConstants.{VALUE_BYTES}
use Rattle.erm_bytes.specs.Bytes.{AreBytes, bytes_of, words_of}
use Rattle.erm_model.specs.declared.TheConstants.{ROW_WORDS}
use Rattle.erm_record.specs.declared.TheConstants.{ABSENT, PRESENT}

-- what a value may be: so many bytes at most
abbrev pub IsValue : List ℕ → Type 0
IsValue bytes = AreBytes bytes × (length bytes ≤ VALUE_BYTES)

-- the row of a record without a value: its kind, and zeros
abbrev pub absent_row : List ℕ
absent_row = ABSENT ∷ replicate (ROW_WORDS - 1) 0

-- the bytes of a value and zeros after them, as many bytes as a value may have
abbrev pub padded : List ℕ → List ℕ
padded bytes = bytes ++ replicate (VALUE_BYTES - length bytes) 0

-- the row of a value: its kind, how many bytes it has, and the bytes, eight to a word, the least first
abbrev pub value_row : List ℕ → List ℕ
value_row bytes = PRESENT ∷ length bytes ∷ words_of (ROW_WORDS - 2) (padded bytes)

-- a record's row: that of no value, or of one
abbrev pub IsRecord : List ℕ → Type 0
IsRecord row = (row ≡ absent_row) ⊎ ((bytes : List ℕ) × IsValue bytes × (row ≡ value_row bytes))

-- the bytes of a row behind its length, as many as the length says
abbrev pub bytes_in : List ℕ → List ℕ
bytes_in row = take (slice_index row 1) (bytes_of (drop 2 row))

-- the value of a record: none where its bytes spell another row. So reading is strict.
unfoldable pub record_value : List ℕ → Option (List ℕ)
record_value row = if pointwise nat_eq (value_row (bytes_in row)) row then Some (bytes_in row) else None
