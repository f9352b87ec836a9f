-- What taking bytes from a source says.
use Rattle.std.specs.Prelude.{◌≡◌, ℕ, ◌≤◌, List, [], length, take, drop, Option, Some}

-- n bytes were taken from the front of these bytes into a buffer, and left is what remains; none only at the end
pub record Takes (bytes : List ℕ) (n : ℕ) (buffer : List ℕ) (left : Option (List ℕ)) : Type 0 where
  pub there : n ≤ length bytes
  pub front : take n buffer ≡ take n bytes
  pub rest : left ≡ Some (drop n bytes)
  pub end : n ≡ 0 → bytes ≡ []
