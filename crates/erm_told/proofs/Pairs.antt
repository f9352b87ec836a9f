-- Pairs of a list's elements, each with those behind it.
use Rattle.std.proofs.Common.{◌≡◌, ℕ, zero, suc, ◌<◌, List, [], ◌∷◌, Some, length, get_or, slice_get, AllPairs, All, subst, arith}
use Rattle.erm_model.specs.Member.{◌∈◌}
use Rattle.erm_model.proofs.Members.{∈-at, ∈-behind}
use Rattle.erm_machine.proofs.Listed.{∈-head}

-- each element is so related to all behind it
abbrev pub Pairs : {X : Type 0} → (X → X → Type 0) → List X → Type 0
Pairs {X} R [] = Unit {0}
Pairs {X} R (x ∷ xs) = ((y : X) → y ∈ xs → R x y) × Pairs R xs

-- a place within the list
pub within : {X : Type 0} (xs : List X) (k : ℕ) (x : X) → slice_get xs k ≡ Some x → k < length xs
within [] k x is = absurd (cc)
within (y ∷ xs) zero x is = omega arith
within (y ∷ xs) (suc k) x is = omega (arith, within xs k x is)

pub at_place : {X : Type 0} (xs : List X) (k : ℕ) (x d : X) → slice_get xs k ≡ Some x → get_or xs k d ≡ x
at_place [] k x d is = absurd (cc)
at_place (y ∷ xs) zero x d is = cc
at_place (y ∷ xs) (suc k) x d is = at_place xs k x d is

pub pairs_of : {X : Type 0} (R : X → X → Type 0) (xs : List X) → AllPairs R xs → Pairs R xs
pairs_of R [] all = tt
pairs_of {X} R (x ∷ xs) all = (
  λ y m. subst (λ (z : X). R x z) (at_place xs m.0 y x m.1) (all 0 (suc m.0) x (omega arith) (omega (arith, within xs m.0 y m.1))),
  pairs_of R xs (λ i j d before in_it. all (suc i) (suc j) d (omega (arith, before)) (omega (arith, in_it))),
)

pub all_pairs : {X : Type 0} (R : X → X → Type 0) (xs : List X) → Pairs R xs → AllPairs R xs
all_pairs R [] pairs i j d before in_it = absurd (omega (arith, in_it))
all_pairs R (x ∷ xs) pairs i zero d before in_it = absurd (omega (arith, before))
all_pairs R (x ∷ xs) pairs zero (suc j) d before in_it = pairs.0 (get_or xs j d) (∈-at xs j d (omega (arith, in_it)))
all_pairs R (x ∷ xs) pairs (suc i) (suc j) d before in_it = all_pairs R xs pairs.1 i j d (omega (arith, before)) (omega (arith, in_it))

-- what is so of each element
pub all_of : {X : Type 0} (P : X → Type 0) (xs : List X) → All P xs → (x : X) → x ∈ xs → P x
all_of {X} P xs all x m = subst P (at_place xs m.0 x x m.1) (all m.0 x (within xs m.0 x m.1))

-- pairs of what is so related in another way
pub pairs_from : {X : Type 0} (R S : X → X → Type 0) (xs : List X) → Pairs R xs → ((x y : X) → x ∈ xs → y ∈ xs → R x y → S x y) → Pairs S xs
pairs_from R S [] pairs gives = tt
pairs_from R S (x ∷ xs) pairs gives = (
  λ y m. gives x y (∈-head x xs) (∈-behind x xs y m) (pairs.0 y m),
  pairs_from R S xs pairs.1 (λ a b m n r. gives a b (∈-behind x xs a m) (∈-behind x xs b n) r),
)
