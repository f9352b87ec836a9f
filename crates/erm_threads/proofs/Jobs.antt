-- What was said of elements by their place.
use Rattle.std.proofs.Common.{◌≡◌, ◌<◌, ℕ, zero, suc, List, [], ◌∷◌, length, map, Some, refl, arith}
use Rattle.std.specs.List.{slice_get}

-- there is an element at this place
pub there_is : {X : Type 0} (xs : List X) (n : ℕ) (x : X) → slice_get xs n ≡ Some x → n < length xs
there_is [] n x is = cc
there_is (y ∷ ys) zero x is = omega arith
there_is (y ∷ ys) (suc n) x is = let less = there_is ys n x is in omega arith

-- and what it was made from
pub map_from : {X Y : Type 0} (f : X → Y) (xs : List X) (k : ℕ) (y : Y) → slice_get (map f xs) k ≡ Some y → (x : X) × (slice_get xs k ≡ Some x) × (f x ≡ y)
map_from f [] k y at = absurd (let less = there_is [] k y at in omega (arith, less))
map_from f (x ∷ xs) zero y at = (x, refl, cc)
map_from f (x ∷ xs) (suc k) y at = map_from f xs k y at
