-- How values are spelled, in scripts and in reports.
use Rattle.std.specs.Prelude.{ℕ, List, [], ◌∷◌, codes}
use Rattle.hex.specs.Hex.{encode_lower}

-- a value: its bytes in hexadecimal digits, or a dash where it has none
abbrev pub value_word : List ℕ → List ℕ
value_word [] = codes "-"
value_word (b ∷ bs) = encode_lower (b ∷ bs)
