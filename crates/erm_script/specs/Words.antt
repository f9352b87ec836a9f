-- The words of a line.
use Rattle.std.specs.Prelude.{◌==◌, ℕ, List, [], Option, Some, None}
use Rattle.std.specs.List.{slice_split}
use Rattle.std.specs.Borrow.{Bor}

-- the words of a line, each after one space but the first
abbrev pub words_of : List ℕ → List (List ℕ)
words_of line = slice_split (λ b. b == 32) line

-- the words behind a word, of which these bytes are all that comes after its space, if there is one
abbrev pub words_after : Option (Bor (List ℕ)) → List (List ℕ)
words_after None = []
words_after (Some rest) = words_of rest.now
