-- What stands in a list that grows, or in which one value is changed.
use Rattle.std.proofs.Common.{◌≡◌, ℕ, zero, suc, ◌<◌, ◌⊎◌, List, [], ◌∷◌, ◌++◌, length, set, take, Some, refl, sym, inl, inr, arith}
use Rattle.std.specs.List.{slice_get}
use Rattle.std.proofs.lemmas.Option.{same_Some}
use Rattle.erm_model.specs.Member.{◌∈◌}

module _ {X : Type 0} where
  -- the last one stands there, and those before
  pub ∈-last : (xs : List X) (x : X) → x ∈ (xs ++ x ∷ [])
  ∈-last [] x = (zero, refl)
  ∈-last (y ∷ xs) x = let m = ∈-last xs x in (suc m.0, m.1)

  pub ∈-front : (xs : List X) (y x : X) → x ∈ xs → x ∈ (xs ++ y ∷ [])
  ∈-front xs y x m = at xs y x m.0 m.1
    where
      at : (xs : List X) (y x : X) (k : ℕ) → slice_get xs k ≡ Some x → x ∈ (xs ++ y ∷ [])
      at [] y x k e = absurd (cc)
      at (z ∷ xs) y x zero e = (zero, e)
      at (z ∷ xs) y x (suc k) e = let m = at xs y x k e in (suc m.0, m.1)

  -- what stands in a list with one value changed is that one, or stood there before
  pub ∈-set : (xs : List X) (k : ℕ) (y x : X) → x ∈ set xs k y → (x ∈ xs) ⊎ ((x ≡ y) × (k < length xs))
  ∈-set xs k y x m = at xs k y x m.0 m.1
    where
      at : (xs : List X) (k : ℕ) (y x : X) (j : ℕ) → slice_get (set xs k y) j ≡ Some x → (x ∈ xs) ⊎ ((x ≡ y) × (k < length xs))
      at [] k y x j e = absurd (cc)
      at (z ∷ xs) zero y x zero e = inr (sym (same_Some _ _ e), omega arith)
      at (z ∷ xs) zero y x (suc j) e = inl (suc j, e)
      at (z ∷ xs) (suc k) y x zero e = inl (zero, e)
      at (z ∷ xs) (suc k) y x (suc j) e = elim (at xs k y x j e) [ inl m ↦ inl (suc m.0, m.1) | inr same ↦ inr (same.0, let h = same.1 in omega (arith, h)) ]

  -- what stands in a list's first part stands in the list
  pub ∈-take : (n : ℕ) (xs : List X) (x : X) → x ∈ take n xs → x ∈ xs
  ∈-take n xs x m = at n xs x m.0 m.1
    where
      at : (n : ℕ) (xs : List X) (x : X) (k : ℕ) → slice_get (take n xs) k ≡ Some x → x ∈ xs
      at zero xs x k e = absurd (cc)
      at (suc n) [] x k e = absurd (cc)
      at (suc n) (z ∷ xs) x zero e = (zero, e)
      at (suc n) (z ∷ xs) x (suc k) e = let m = at n xs x k e in (suc m.0, m.1)
