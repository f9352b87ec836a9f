-- What putting bytes to a sink says.
use Rattle.std.specs.Prelude.{◌≡◌, ℕ, ◌≤◌, List, ◌++◌, length, take, Option}
use Rattle.std.specs.Option.{option_map}

-- n bytes from the front of a piece were written at the end, as far as the sink tells
abbrev pub Writes : List ℕ → ℕ → Option (List ℕ) → Option (List ℕ) → Type 0
Writes piece n before after = after ≡ option_map (λ bytes. bytes ++ take n piece) before

-- all of a text was put, as far as the sink tells
abbrev pub Puts : List ℕ → Option (List ℕ) → Option (List ℕ) → Type 0
Puts text before after = after ≡ option_map (λ bytes. bytes ++ text) before

-- a text was put up to some place, as far as the sink tells
abbrev pub PutsFront : List ℕ → Option (List ℕ) → Option (List ℕ) → Type 0
PutsFront text before after = (n : ℕ) × (n ≤ length text) × Puts (take n text) before after
