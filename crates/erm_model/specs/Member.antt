-- Membership in a list.
use Rattle.std.specs.Prelude.{◌≡◌, ℕ, List, Some}
use Rattle.std.specs.List.{slice_get}

infix 4 ◌∈◌
-- x stands in the list, at some place
abbrev pub ◌∈◌ : {X : Type 0} → X → List X → Type 0
x ∈ xs = (k : ℕ) × (slice_get xs k ≡ Some x)
