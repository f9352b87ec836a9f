-- Sums over numbers from one on.
use Rattle.std.proofs.Common.{◌≡◌, ℕ, zero, suc, ◌+◌, ◌<◌, ◌≤◌, refl, sym, ap, ◌∙◌, inl, inr, arith}
use Rattle.std.proofs.lemmas.Bool.{cases_eq}
use Rattle.erm_accounts.specs.Totals.{sum_from}

pub sum-zero : (f : ℕ → ℕ) (low : ℕ) → sum_from f low 0 ≡ 0
unfolding sum_from
sum-zero f low = refl

pub sum-suc : (f : ℕ → ℕ) (low count : ℕ) → sum_from f low (suc count) ≡ f low + sum_from f (low + 1) count
unfolding sum_from
sum-suc f low count = refl

-- functions that agree there have one sum
pub sum-same : (f g : ℕ → ℕ) (low count : ℕ) → ((k : ℕ) → low ≤ k → k < low + count → f k ≡ g k) → sum_from f low count ≡ sum_from g low count
sum-same f g low zero same = sum-zero f low ∙ sym (sum-zero g low)
sum-same f g low (suc count) same =
    let here = same low (omega arith) (omega arith) in
    let rest = sum-same f g (low + 1) count (λ k above below. same k (omega arith) (omega arith)) in
    let one = sum-suc f low count in
    let other = sum-suc g low count in
    omega (arith, here, rest, one, other)

-- functions that agree there but at one number
pub sum-changed : (f g : ℕ → ℕ) (low count at : ℕ) → low ≤ at → at < low + count → ((k : ℕ) → (k ≡ at → ⊥) → f k ≡ g k) → sum_from f low count + g at ≡ sum_from g low count + f at
sum-changed f g low zero at above below same = absurd (omega arith)
sum-changed f g low (suc count) at above below same = elim (cases_eq low at) as (λ _. sum_from f low (suc count) + g at ≡ sum_from g low (suc count) + f at) [
  | inl here ↦
      let rest = sum-same f g (low + 1) count (λ k over under. same k (λ (is : k ≡ at). omega (arith, is, here, over))) in
      let one = sum-suc f low count in
      let other = sum-suc g low count in
      let left : f low ≡ f at = ap f here in
      let right : g low ≡ g at = ap g here in
      omega (arith, rest, one, other, left, right)
  | inr there ↦
      let rest = sum-changed f g (low + 1) count at (omega (arith, there)) (omega arith) same in
      let one = sum-suc f low count in
      let other = sum-suc g low count in
      let here = same low there in
      omega (arith, rest, one, other, here)
]
