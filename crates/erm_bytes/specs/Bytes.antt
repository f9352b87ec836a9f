-- Words of 64 bits as bytes, the least byte first.
use Rattle.std.specs.Prelude.{ℕ, zero, suc, ◌<◌, ◌^◌, List, [], ◌∷◌, take, drop}
use Rattle.std.specs.List.{flat_map, All}
use Rattle.std.specs.Int.{w64, to_le_bytes, from_le_bytes}

-- each of these numbers is a word of 64 bits
abbrev pub AreWords : List ℕ → Type 0
AreWords words = All (λ word. word < 2 ^ 64) words

-- each of these numbers is a byte
abbrev pub AreBytes : List ℕ → Type 0
AreBytes bytes = All (λ byte. byte < 2 ^ 8) bytes

-- the bytes of words: eight for each, the least first
abbrev pub bytes_of : List ℕ → List ℕ
bytes_of words = flat_map (λ word. to_le_bytes w64 word) words

-- the first n words that bytes spell: eight bytes for each, the least first
unfoldable pub words_of : ℕ → List ℕ → List ℕ
words_of zero bytes = []
words_of (suc n) bytes = from_le_bytes w64 (take 8 bytes) ∷ words_of n (drop 8 bytes)
