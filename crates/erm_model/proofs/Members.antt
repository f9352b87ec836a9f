-- Membership in lists that grow at their end.
use Rattle.std.proofs.Common.{zero, suc, ◌≡◌, ℕ, ◌<◌, ◌⊎◌, List, [], ◌∷◌, ◌++◌, Some, length, get_or, refl, inl, inr, arith}
use Rattle.std.specs.List.{slice_get}
use Rattle.std.proofs.lemmas.Option.{slice_get-get_or}
use Rattle.erm_model.specs.Member.{◌∈◌}

-- nothing stands in an empty list
pub none_in_nil : {X : Type 0} (x : X) → x ∈ [] → ⊥
none_in_nil x m = cc (m.1)

at_push : {X : Type 0} (xs : List X) (y x : X) (k : ℕ) → slice_get (xs ++ y ∷ []) k ≡ Some x → (x ∈ xs) ⊎ (x ≡ y)
at_push [] y x zero e = inr (cc)
at_push [] y x (suc k) e = absurd (cc)
at_push (z ∷ xs) y x zero e = inl (zero, e)
at_push (z ∷ xs) y x (suc k) e = elim (at_push xs y x k e) [ inl m ↦ inl (suc m.0, m.1) | inr same ↦ inr same ]

-- what stands in a list with one more stood there before, or is the one more
pub ∈-push : {X : Type 0} (xs : List X) (y x : X) → x ∈ (xs ++ y ∷ []) → (x ∈ xs) ⊎ (x ≡ y)
∈-push xs y x m = at_push xs y x m.0 m.1

-- what stands at a place stands in the list
pub ∈-at : {X : Type 0} (xs : List X) (k : ℕ) (d : X) → k < length xs → get_or xs k d ∈ xs
∈-at xs k d within = (k, slice_get-get_or xs k d within)

-- what stands behind the first stands in the list
pub ∈-behind : {X : Type 0} (y : X) (xs : List X) (x : X) → x ∈ xs → x ∈ (y ∷ xs)
∈-behind y xs x m = (suc m.0, m.1)

-- what stands at a place of a list with one more
pub slice_get-push : {X : Type 0} (xs : List X) (y x : X) (i : ℕ) → slice_get (xs ++ y ∷ []) i ≡ Some x → ((i < length xs) × (slice_get xs i ≡ Some x)) ⊎ ((i ≡ length xs) × (y ≡ x))
slice_get-push [] y x zero e = inr (refl, cc)
slice_get-push [] y x (suc i) e = absurd (cc)
slice_get-push (z ∷ xs) y x zero e = inl (omega arith, e)
slice_get-push (z ∷ xs) y x (suc i) e = elim (slice_get-push xs y x i e) [ inl h ↦ inl (omega (arith, h.0), h.1) | inr h ↦ inr (omega (arith, h.0), h.1) ]
