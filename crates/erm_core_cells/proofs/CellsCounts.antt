-- How often a test passes in lists that are cut, extended, or changed at one place.
use Rattle.std.proofs.Common.{◌≡◌, ℕ, suc, ◌+◌, ◌-◌, ◌<◌, ◌≤◌, ⊎_elim, Bool, false, cond, List, [], ◌∷◌, length, set, get_or, take, drop, map, count_by, refl, sym, ap, ◌∙◌, arith}
use Rattle.std.proofs.lemmas.Bool.{cases_lt}
use Rattle.std.proofs.lemmas.List.{set_past, drop-set-lt, drop-set-add, get_or-drop, drop-take, drop-drop, take_all}
use Rattle.std.proofs.lemmas.List.Sums.{sum_by-cons, sum_by-set, sum_by-take-drop, sum_by_more}

module _ {X : Type 0} (q : X → Bool) where
  -- one place changes
  pub count_set : (xs : List X) (k : ℕ) (y d : X) → k < length xs → count_by q (set xs k y) + cond (q (get_or xs k d)) 1 0 ≡ count_by q xs + cond (q y) 1 0
  count_set xs k y d within = sum_by-set (λ (x : X). cond (q x) 1 0) xs k y d within

  -- to a value that tests the same
  pub count_set-same : (xs : List X) (k : ℕ) (y d : X) → q y ≡ q (get_or xs k d) → count_by q (set xs k y) ≡ count_by q xs
  count_set-same xs k y d same =
      ⊎_elim
      (λ (within : k < length xs).
      let sum = count_set xs k y d within in
      let e : ◌≡◌ {A = ℕ} (cond (q y) 1 0) (cond (q (get_or xs k d)) 1 0) = ap (λ (b : Bool). cond b 1 0) same in
      omega (arith, sum, e))
      (λ (past : length xs ≤ k). ap (λ ys. count_by q ys) (set_past xs k y past)) (cases_lt k (length xs))

  -- the same behind a place
  pub count_drop_set : (n : ℕ) (xs : List X) (k : ℕ) (y d : X) → q y ≡ q (get_or xs k d) → count_by q (drop n (set xs k y)) ≡ count_by q (drop n xs)
  count_drop_set n xs k y d same =
      ⊎_elim
      (λ (before : k < n). ap (λ ys. count_by q ys) (drop-set-lt n xs k y before))
      (λ (behind : n ≤ k). at_more (k - n) (omega arith)) (cases_lt k n)
    where
      at_more : (i : ℕ) → n + i ≡ k → count_by q (drop n (set xs k y)) ≡ count_by q (drop n xs)
      at_more i e =
          let there : q y ≡ q (get_or (drop n xs) i d) = same ∙ ap (λ j. q (get_or xs j d)) (sym e) ∙ ap q (sym (get_or-drop n xs i d)) in
          ap (λ j. count_by q (drop n (set xs j y))) (sym e) ∙ ap (λ ys. count_by q ys) (drop-set-add n xs i y) ∙ count_set-same (drop n xs) i y d there

  -- the part behind a place, cut at another one
  pub count_cut : (xs : List X) (cut place : ℕ) → cut ≤ place → count_by q (drop cut xs) ≡ count_by q (drop cut (take place xs)) + count_by q (drop place xs)
  count_cut xs cut place below = at_more (place - cut) (omega arith)
    where
      at_more : (m : ℕ) → cut + m ≡ place → count_by q (drop cut xs) ≡ count_by q (drop cut (take place xs)) + count_by q (drop place xs)
      at_more m e =
          let both = sum_by-take-drop (λ (x : X). cond (q x) 1 0) (drop cut xs) m in
          let front : count_by q (drop cut (take place xs)) ≡ count_by q (take m (drop cut xs)) =
          ap (λ j. count_by q (drop cut (take j xs))) (sym e) ∙ ap (λ ys. count_by q ys) (drop-take cut m xs) in
          let rest : count_by q (drop m (drop cut xs)) ≡ count_by q (drop place xs) = ap (λ ys. count_by q ys) (drop-drop m cut xs) ∙ ap (λ j. count_by q (drop j xs)) e in
          omega (arith, both, front, rest)

  -- all but the last, and the last
  pub count_last : (xs : List X) (d : X) → 0 < length xs → count_by q xs ≡ count_by q (take (length xs - 1) xs) + cond (q (get_or xs (length xs - 1) d)) 1 0
  count_last xs d some =
      let more = sum_by_more (λ (x : X). cond (q x) 1 0) xs (length xs - 1) d (omega arith) in
      let all : count_by q (take (length xs - 1 + 1) xs) ≡ count_by q xs = ap (λ ys. count_by q ys) (take_all (length xs - 1 + 1) xs (omega arith)) in
      omega (arith, more, all)

  -- none passes
  pub count_none : (xs : List X) (d : X) → ((k : ℕ) → k < length xs → q (get_or xs k d) ≡ false) → count_by q xs ≡ 0
  count_none [] d none = refl
  count_none (x ∷ xs) d none =
      let here : ◌≡◌ {A = ℕ} (cond (q x) 1 0) 0 = ap (λ (b : Bool). cond b 1 0) (none 0 (omega arith)) in
      let rest = count_none xs d (λ k within. none (suc k) (omega arith)) in
      let both : count_by q (x ∷ xs) ≡ cond (q x) 1 0 + count_by q xs = sum_by-cons (λ (z : X). cond (q z) 1 0) x xs in
      omega (arith, here, rest, both)

-- a list mapped to values that test as its own
pub count_map : {X Y : Type 0} (q : Y → Bool) (f : X → Y) (xs : List X) → count_by q (map f xs) ≡ count_by (λ x. q (f x)) xs
count_map q f [] = refl
count_map {X} {Y} q f (x ∷ xs) =
    let rest = count_map q f xs in
    let left : count_by q (f x ∷ map f xs) ≡ cond (q (f x)) 1 0 + count_by q (map f xs) = sum_by-cons (λ (z : Y). cond (q z) 1 0) (f x) (map f xs) in
    let right : count_by (λ (z : X). q (f z)) (x ∷ xs) ≡ cond (q (f x)) 1 0 + count_by (λ (z : X). q (f z)) xs = sum_by-cons (λ (z : X). cond (q (f z)) 1 0) x xs in
    omega (arith, rest, left, right)
