-- What one put does to totals, and so what deposits and withdrawals do.
use Rattle.std.proofs.Common.{◌≡◌, ℕ, ◌+◌, ◌<◌, ◌≤◌, List, Some, refl, sym, ap, ◌∙◌, subst, inl, inr, arith}
use Rattle.std.proofs.lemmas.Bool.Decides.{leb_tells}
use Rattle.std.specs.FinMap.{insert}
use Rattle.erm_accounts.proofs.Solvent.{beside_stays, others_stay, own_is, value_is}
use Rattle.erm_accounts.proofs.Sums.{sum-changed, sum-same}
use Rattle.erm_accounts.specs.Accounts.{Account, Current, Savings, beside, kept, raised, table_of}
use Rattle.erm_accounts.specs.Totals.{AuditsLeaveTotals, DepositsRaiseTotals, WithdrawalsLowerTotals, held, many, total, within}
use Rattle.erm_invariant.proofs.Reading.{readers_keep}
use Rattle.erm_model.specs.Database.{Database, at}
use Rattle.erm_model.specs.Run.{RunsOne, after_all, ops_of}

-- both accounts, whichever comes first
either : (m : Database) (account : Account) (low high : ℕ) → total m low high ≡ held m account low high + held m (beside account) low high
either m Current low high = refl
either m Savings low high = omega arith

-- the customer is one of these, or isn't
data Where (low high customer : ℕ) : Type 0 where
  inside : low ≤ customer → customer < low + many low high → ((amount : ℕ) → within low high customer amount ≡ amount) → Where low high customer
  outside : ((k : ℕ) → low ≤ k → k < low + many low high → k ≡ customer → ⊥) → ((amount : ℕ) → within low high customer amount ≡ 0) → Where low high customer

place_of : (low high customer : ℕ) → Where low high customer
place_of low high customer = elim (leb_tells low customer) as (λ _. Where low high customer) [
  | inr below ↦ outside (λ k above under is. omega (arith, below.1, is)) (λ amount. rw below.0 refl)
  | inl above ↦ elim (leb_tells customer high) as (λ _. Where low high customer) [
    | inr over ↦ outside (λ k from under is. omega (arith, over.1, is)) (λ amount. rw (above.0, over.0) refl)
    | inl under ↦ inside above.1 (omega (arith, above.1, under.1)) (λ amount. rw (above.0, under.0) refl)
  ]
]

pub within-inside : (low high customer amount : ℕ) → low ≤ customer → customer ≤ high → within low high customer amount ≡ amount
within-inside low high customer amount above below = elim (place_of low high customer) as (λ _. within low high customer amount ≡ amount) [
  | inside from under so ↦ so amount
  | outside out so ↦ absurd (out customer above (omega (arith, above, below)) refl)
]

module _ (m : Database) (account : Account) (customer : ℕ) (left : List ℕ) (low high : ℕ) where
  abbrev put : Database
  put = insert m (at (table_of account) customer) left

  beside_held : held put (beside account) low high ≡ held m (beside account) low high
  beside_held = sum-same (λ c. raised (kept put (beside account) c)) (λ c. raised (kept m (beside account) c)) low (many low high)
      (λ k above below. ap raised (beside_stays m account customer left k))

  own_held_inside : low ≤ customer → customer < low + many low high → held put account low high + raised (kept m account customer) ≡ held m account low high + raised (Some left)
  own_held_inside above below =
      let changed = sum-changed (λ c. raised (kept put account c)) (λ c. raised (kept m account c)) low (many low high) customer above below
      (λ k other. ap raised (others_stay m account customer left k other)) in
      let own : raised (kept put account customer) ≡ raised (Some left) = ap raised (own_is m account customer left) in
      omega (arith, changed, own)

  own_held_outside : ((k : ℕ) → low ≤ k → k < low + many low high → k ≡ customer → ⊥) → held put account low high ≡ held m account low high
  own_held_outside out = sum-same (λ c. raised (kept put account c)) (λ c. raised (kept m account c)) low (many low high)
      (λ k above below. ap raised (others_stay m account customer left k (out k above below)))

  -- a put that raises the account
  pub total_raised : (amount : ℕ) → raised (Some left) ≡ raised (kept m account customer) + amount → total put low high ≡ total m low high + within low high customer amount
  total_raised amount is = elim (place_of low high customer) as (λ _. total put low high ≡ total m low high + within low high customer amount) [
    | inside above below so ↦
        omega (arith, either put account low high, either m account low high, beside_held, own_held_inside above below, is, so amount)
    | outside out so ↦ omega (arith, either put account low high, either m account low high, beside_held, own_held_outside out, so amount)
  ]

  -- one that lowers it
  pub total_lowered : (amount : ℕ) → raised (Some left) + amount ≡ raised (kept m account customer) → total put low high + within low high customer amount ≡ total m low high
  total_lowered amount is = elim (place_of low high customer) as (λ _. total put low high + within low high customer amount ≡ total m low high) [
    | inside above below so ↦
        omega (arith, either put account low high, either m account low high, beside_held, own_held_inside above below, is, so amount)
    | outside out so ↦ omega (arith, either put account low high, either m account low high, beside_held, own_held_outside out, so amount)
  ]

pub deposits_raise : DepositsRaiseTotals
deposits_raise steps is m run low high =
    let runs = subst (RunsOne m) is.steps_are run in
    let own : raised is.own ≡ raised (kept m is.account is.customer) = ap raised (value_is is.own (kept m is.account is.customer) runs.0) in
    subst (λ done. total (after_all (ops_of done) m) low high ≡ total m low high + within low high is.customer is.amount) (sym is.steps_are)
    (total_raised m is.account is.customer is.left low high is.amount (is.raised_by ∙ ap (λ n. n + is.amount) own))

pub withdrawals_lower : WithdrawalsLowerTotals
withdrawals_lower steps is m run low high =
    let runs = subst (RunsOne m) is.steps_are run in
    let own : raised is.own ≡ raised (kept m is.account is.customer) = ap raised (value_is is.own (kept m is.account is.customer) runs.0) in
    subst (λ done. total (after_all (ops_of done) m) low high + within low high is.customer is.amount ≡ total m low high) (sym is.steps_are)
    (total_lowered m is.account is.customer is.left low high is.amount (is.lowered ∙ own))

pub audits_leave : AuditsLeaveTotals
audits_leave steps are m run low high = readers_keep (λ (n : Database). total n low high ≡ total m low high) steps are m refl run
