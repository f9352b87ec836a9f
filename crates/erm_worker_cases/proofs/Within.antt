-- Places of a list.
use Rattle.std.proofs.Common.{◌≡◌, ℕ, zero, suc, ◌<◌, List, [], ◌∷◌, length, Some, arith}
use Rattle.std.specs.List.{slice_get}

-- where there is an element, the place is within the list
pub within : {X : Type 0} (xs : List X) (k : ℕ) (x : X) → slice_get xs k ≡ Some x → k < length xs
within [] k x is = cc
within (y ∷ xs) zero x is = omega arith
within (y ∷ xs) (suc k) x is = let less = within xs k x is in omega arith
