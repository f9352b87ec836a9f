-- Lists that grow at their end.
use Rattle.std.proofs.Common.{◌≡◌, ℕ, zero, suc, ◌⊎◌, List, [], ◌∷◌, ◌++◌, Some, inl, inr, refl}
use Rattle.std.specs.List.{slice_get}
use Rattle.erm_model.specs.Member.{◌∈◌}

-- what stands in a list stands in it with more behind
still : {X : Type 0} (xs ys : List X) (x : X) (k : ℕ) → slice_get xs k ≡ Some x → slice_get (xs ++ ys) k ≡ Some x
still [] ys x k at = cc
still (y ∷ xs) ys x zero at = at
still (y ∷ xs) ys x (suc k) at = still xs ys x k at

pub ∈-before : {X : Type 0} (xs ys : List X) (x : X) → x ∈ xs → x ∈ (xs ++ ys)
∈-before xs ys x within = (within.0, still xs ys x within.0 within.1)

-- what stands in a list stands in it with more in front
pub ∈-after : {X : Type 0} (xs ys : List X) (x : X) → x ∈ ys → x ∈ (xs ++ ys)
∈-after [] ys x within = within
∈-after (y ∷ xs) ys x within = let there = ∈-after xs ys x within in (suc there.0, there.1)

-- the one at the end
pub ∈-last : {X : Type 0} (xs : List X) (x : X) → x ∈ (xs ++ x ∷ [])
∈-last xs x = ∈-after xs (x ∷ []) x (0, refl)

-- what stands in two lists joined stands in one
pub ∈-parts : {X : Type 0} (xs ys : List X) (x : X) → x ∈ (xs ++ ys) → (x ∈ xs) ⊎ (x ∈ ys)
∈-parts [] ys x within = inr within
∈-parts (y ∷ xs) ys x (zero, at) = inl (zero, at)
∈-parts (y ∷ xs) ys x (suc k, at) = elim (∈-parts xs ys x (k, at)) [ inl m ↦ inl (suc m.0, m.1) | inr m ↦ inr m ]
