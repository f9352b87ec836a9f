-- What one seat's step leaves of facts on all seats: a function with one value changed.
use Rattle.std.proofs.Common.{◌≡◌, ◌≢◌, ℕ, zero, suc, ◌+◌, ◌<◌, ◌≤◌, ◌⊎◌, ⊎_elim, Bool, true, false, cond, eqb, refl, sym, ap, subst, arith, eqb-true}
use Rattle.std.proofs.lemmas.Bool.{cases_eq, eqb-false}
use Rattle.erm_machine.specs.Words.{put}
use Rattle.erm_machine.specs.Facts.{total}

module _ {X : Type 0} where
  cases_at : (P : X → Type 0) (b : Bool) (u v : X) → (b ≡ true → P u) → (b ≡ false → P v) → P (cond b u v)
  cases_at P true u v f g = f refl
  cases_at P false u v f g = g refl

  -- at the changed place the new value, elsewhere the old one
  pub at_cases : (P : X → Type 0) (f : ℕ → X) (k : ℕ) (v : X) (n : ℕ) → (n ≡ k → P v) → (n ≢ k → P (f n)) → P (put f k v n)
  at_cases P f k v n here there =
      cases_at P (eqb n k) v (f n) (λ e. here (eqb-true n k e)) (λ e. there (eqb-false n k e))

  pub put_same : (f : ℕ → X) (k : ℕ) (v : X) → put f k v k ≡ v
  put_same f k v = at_cases (λ w. w ≡ v) f k v k (λ e. refl) (λ ne. absurd (ne refl))

  pub put_other : (f : ℕ → X) (k : ℕ) (v : X) (n : ℕ) → n ≢ k → put f k v n ≡ f n
  put_other f k v n ne = at_cases (λ w. w ≡ f n) f k v n (λ e. absurd (ne e)) (λ _. refl)

-- a fact of each seat
pub each_seat : {X : Type 0} (F : ℕ → X → Type 0) (f : ℕ → X) (p : ℕ) (y : X) → F p y → ((q : ℕ) → q ≢ p → F q (f q)) → (q : ℕ) → F q (put f p y q)
each_seat F f p y own others q = at_cases (λ z. F q z) f p y q (λ e. subst (λ n. F n y) (sym e) own) (others q)

-- a fact of each two seats
pub each_two : {X : Type 0} (G : X → ℕ → X → Type 0) (f : ℕ → X) (p : ℕ) (y : X)
    → ((q : ℕ) → q ≢ p → G y q (f q))
    → ((q : ℕ) → q ≢ p → G (f q) p y)
    → ((q r : ℕ) → q ≢ p → r ≢ p → q ≢ r → G (f q) r (f r))
    → (q r : ℕ) → q ≢ r → G (put f p y q) r (put f p y r)
each_two G f p y new_eyes on_new others q r ne =
    at_cases (λ z. G z r (put f p y r)) f p y q
    (λ is. at_cases (λ w. G y r w) f p y r (λ also. absurd (ne (also_same q r p is also))) (λ other. new_eyes r other))
    (λ isnt. at_cases (λ w. G (f q) r w) f p y r (λ is. subst (λ n. G (f q) n y) (sym is) (on_new q isnt)) (λ other. others q r isnt other ne))
  where
    also_same : (q r p : ℕ) → q ≡ p → r ≡ p → q ≡ r
    also_same q r p a b = cc

-- a sum over places below n where one value is changed
pub total-put_outside : {X : Type 0} (g : X → ℕ) (n : ℕ) (f : ℕ → X) (k : ℕ) (v : X) → n ≤ k → total g n (put f k v) ≡ total g n f
unfolding total
total-put_outside g zero f k v out = refl
total-put_outside g (suc n) f k v out =
    let before = total-put_outside g n f k v (omega arith) in
    let here : g (put f k v n) ≡ g (f n) = ap g (put_other f k v n (omega arith)) in
    omega (arith, before, here)

pub total-put : {X : Type 0} (g : X → ℕ) (n : ℕ) (f : ℕ → X) (k : ℕ) (v : X) → k < n → total g n (put f k v) + g (f k) ≡ total g n f + g v
unfolding total
total-put g zero f k v within = absurd (omega arith)
total-put g (suc n) f k v within =
    ⊎_elim
    (λ (e : n ≡ k).
    let before = total-put_outside g n f k v (omega arith) in
    let here : g (put f k v n) ≡ g v = ap g (subst (λ m. put f k v m ≡ v) (sym e) (put_same f k v)) in
    let old : g (f n) ≡ g (f k) = ap (λ m. g (f m)) e in
    omega (arith, before, here, old))
    (λ (ne : n ≡ k → ⊥).
    let before = total-put g n f k v (omega arith) in
    let here : g (put f k v n) ≡ g (f n) = ap g (put_other f k v n ne) in
    omega (arith, before, here))
    (same_or_not n k)
  where
    same_or_not : (a b : ℕ) → (a ≡ b) ⊎ (a ≡ b → ⊥)
    same_or_not a b = grind arith

-- a value is at most the sum in which it stands
pub total_at : {X : Type 0} (g : X → ℕ) (n : ℕ) (f : ℕ → X) (k : ℕ) → k < n → g (f k) ≤ total g n f
unfolding total
total_at g zero f k within = absurd (omega arith)
total_at g (suc n) f k within =
    ⊎_elim (λ (same : k ≡ n). let h = ap (λ m. g (f m)) same in omega (arith, h))
    (λ (ne : k ≡ n → ⊥). let before = total_at g n f k (omega (arith, ne, within)) in omega (arith, before)) (cases_eq k n)

-- a sum whose values stay
pub total_same : {X : Type 0} (g : X → ℕ) (n : ℕ) (f : ℕ → X) (k : ℕ) (v : X) → g v ≡ g (f k) → total g n (put f k v) ≡ total g n f
unfolding total
total_same g zero f k v e = refl
total_same g (suc n) f k v e =
    let before = total_same g n f k v e in
    let here : g (put f k v n) ≡ g (f n) = at_cases (λ w. g w ≡ g (f n)) f k v n (λ is. subst (λ m. g v ≡ g (f m)) (sym is) e) (λ _. refl) in
    omega (arith, before, here)
