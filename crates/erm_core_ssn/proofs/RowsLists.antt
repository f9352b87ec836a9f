-- Fronts of lists: rows of which words are stored, and cells that are cut off.
use Rattle.std.proofs.Common.{◌≡◌, ℕ, zero, suc, ◌+◌, ◌<◌, ◌≤◌, ⊎_elim, List, [], ◌∷◌, ◌++◌, length, set, take, drop, refl, sym, ap, ◌∙◌, arith}
use Rattle.std.proofs.lemmas.Bool.{cases_lt}
use Rattle.std.proofs.lemmas.List.{take_all, take-set-le, take_more_set}
use Rattle.std.proofs.Math.Seq.{take-set-lt}
use Rattle.erm_model.specs.Member.{◌∈◌}

module _ {X : Type 0} where
  -- what stands behind the first so many stands in the list
  pub ∈-drop : (n : ℕ) (xs : List X) (x : X) → x ∈ drop n xs → x ∈ xs
  ∈-drop zero xs x m = m
  ∈-drop (suc n) [] x m = m
  ∈-drop (suc n) (z ∷ xs) x m = let there = ∈-drop n xs x m in (suc there.0, there.1)

  -- the fronts of two lists that agree do so after one value is stored into both, and after one more where both had as many
  pub front_set : (n : ℕ) (xs ys : List X) (k : ℕ) (v : X) → take n xs ≡ take n ys → take n (set xs k v) ≡ take n (set ys k v)
  front_set n xs ys k v same =
      ⊎_elim
      (λ (low : k < n). take-set-lt n xs k v low ∙ ap (λ zs. set zs k v) same ∙ sym (take-set-lt n ys k v low))
      (λ (high : n ≤ k). take-set-le n xs k v high ∙ same ∙ sym (take-set-le n ys k v high))
      (cases_lt k n)

  pub front_more : (n : ℕ) (xs ys : List X) (v : X) → n < length xs → n < length ys → take n xs ≡ take n ys → take (n + 1) (set xs n v) ≡ take (n + 1) (set ys n v)
  front_more n xs ys v low below same = take_more_set xs n v low ∙ ap (λ zs. zs ++ v ∷ []) same ∙ sym (take_more_set ys n v below)

  -- a part of a front
  pub take_less : (m n : ℕ) (xs : List X) → m ≤ n → take m (take n xs) ≡ take m xs
  take_less zero n xs h = refl
  take_less (suc m) zero xs h = absurd (omega (arith, h))
  take_less (suc m) (suc n) [] h = refl
  take_less (suc m) (suc n) (x ∷ xs) h = ap (λ ys. x ∷ ys) (take_less m n xs (omega (arith, h)))

  pub front_less : (m n : ℕ) (xs ys : List X) → m ≤ n → take n xs ≡ take n ys → take m xs ≡ take m ys
  front_less m n xs ys h same = sym (take_less m n xs h) ∙ ap (take m) same ∙ take_less m n ys h

  -- fronts that are all of two lists
  pub front_whole : (n : ℕ) (xs ys : List X) → length xs ≤ n → length ys ≤ n → take n xs ≡ take n ys → xs ≡ ys
  front_whole n xs ys low below same = sym (take_all n xs low) ∙ same ∙ take_all n ys below
