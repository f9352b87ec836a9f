-- The bank's transactions leave customers solvent, and accounts readable.
use Rattle.std.proofs.Common.{◌≡◌, ◌≢◌, ℕ, ◌+◌, ◌≤◌, ◌^◌, List, Option, Some, None, sym, ap, subst, ⊎_elim, arith}
use Rattle.std.specs.FinMap.{insert}
use Rattle.std.proofs.lemmas.Bool.{cases_eq}
use Rattle.erm_model.specs.Database.{Database, at}
use Rattle.erm_model.specs.declared.key.Key.{Key}
use Rattle.erm_model.specs.declared.operation.Reply.{Reply}
use Rattle.erm_model.specs.declared.operation.Reply.TheVariants as reply
use Rattle.erm_model.specs.Run.{RunsOne, Step, after_all, ops_of}
use Rattle.erm_model.proofs.Keys.{value_at-insert_other, value_at-insert_same}
use Rattle.erm_invariant.specs.Invariant.{Keeps}
use Rattle.erm_accounts.specs.Accounts.{Account, AreReadable, AreSolvent, Current, IsBalance, IsDeposit, IsWithdrawal, Savings, beside, kept, raised, table_of}

-- a reply of a value has one value
abbrev value_in : Reply → Option (List ℕ)
value_in (reply.Value v) = v
value_in r = None

pub value_is : (v w : Option (List ℕ)) → reply.Value v ≡ reply.Value w → v ≡ w
value_is v w same = ap value_in same

-- of the accounts of a customer, one and the other
abbrev Covers : Database → Account → ℕ → Type 0
Covers m account customer = 2 ^ 64 ≤ raised (kept m account customer) + raised (kept m (beside account) customer)

covers : (m : Database) (account : Account) (customer : ℕ) → AreSolvent m → Covers m account customer
covers m Current customer solvent = solvent customer
covers m Savings customer solvent = omega (arith, solvent customer)

are_solvent : (m : Database) (account : Account) → ((customer : ℕ) → Covers m account customer) → AreSolvent m
are_solvent m Current each customer = each customer
are_solvent m Savings each customer = omega (arith, each customer)

are_readable : (m : Database) (account : Account) → ((c : ℕ) → IsBalance (kept m account c)) → ((c : ℕ) → IsBalance (kept m (beside account) c)) → AreReadable m
are_readable m Current own other Current c = own c
are_readable m Current own other Savings c = other c
are_readable m Savings own other Current c = other c
are_readable m Savings own other Savings c = own c

other_table : (account : Account) (customer c : ℕ) → at (table_of (beside account)) c ≢ at (table_of account) customer
other_table Current customer c same = absurd (omega (arith, ap (λ (k : Key). k.table) same))
other_table Savings customer c same = absurd (omega (arith, ap (λ (k : Key). k.table) same))

other_customer : (table customer c : ℕ) → c ≢ customer → at table c ≢ at table customer
other_customer table customer c other same = other (ap (λ (k : Key). k.key) same)

module _ (m : Database) (account : Account) (customer : ℕ) (left : List ℕ) where
  abbrev put : Database
  put = insert m (at (table_of account) customer) left

  pub beside_stays : (c : ℕ) → kept put (beside account) c ≡ kept m (beside account) c
  beside_stays c = value_at-insert_other m (table_of account) customer left (table_of (beside account)) c (other_table account customer c)

  pub own_is : kept put account customer ≡ Some left
  own_is = value_at-insert_same m (table_of account) customer left

  pub others_stay : (c : ℕ) → c ≢ customer → kept put account c ≡ kept m account c
  others_stay c other = value_at-insert_other m (table_of account) customer left (table_of account) c (other_customer (table_of account) customer c other)

  -- where what is put covers, with the other account, all are solvent
  pub stay_solvent : AreSolvent m → 2 ^ 64 ≤ raised (Some left) + raised (kept m (beside account) customer) → AreSolvent put
  stay_solvent solvent enough = are_solvent put account each
    where
      each : (c : ℕ) → Covers put account c
      each c = ⊎_elim
          (λ (same : c ≡ customer). subst (λ d. Covers put account d) (sym same) (rw (own_is, beside_stays customer) enough))
          (λ (other : c ≡ customer → ⊥). rw (others_stay c other, beside_stays c) (covers m account c solvent))
          (cases_eq c customer)

  -- where what is put is a balance, each is
  pub stay_readable : AreReadable m → IsBalance (Some left) → AreReadable put
  stay_readable readable is = are_readable put account own (λ c. subst IsBalance (sym (beside_stays c)) (readable (beside account) c))
    where
      own : (c : ℕ) → IsBalance (kept put account c)
      own c = ⊎_elim
          (λ (same : c ≡ customer). subst (λ d. IsBalance (kept put account d)) (sym same) (subst IsBalance (sym own_is) is))
          (λ (other : c ≡ customer → ⊥). subst IsBalance (sym (others_stay c other)) (readable account c))
          (cases_eq c customer)

pub withdrawals : (steps : List Step) → IsWithdrawal steps → Keeps AreSolvent steps
withdrawals steps is m solvent run =
    let runs = subst (RunsOne m) is.steps_are run in
    let own = value_is is.own (kept m is.account is.customer) runs.0 in
    let other = value_is is.other (kept m (beside is.account) is.customer) runs.1.0 in
    let reads : raised is.other ≡ raised (kept m (beside is.account) is.customer) = ap raised other in
    let enough : 2 ^ 64 ≤ raised (Some is.left) + raised (kept m (beside is.account) is.customer) = omega (arith, is.covered, is.lowered, reads) in
    subst (λ done. AreSolvent (after_all (ops_of done) m)) (sym is.steps_are) (stay_solvent m is.account is.customer is.left solvent enough)

pub deposits : (steps : List Step) → IsDeposit steps → Keeps AreSolvent steps
deposits steps is m solvent run =
    let runs = subst (RunsOne m) is.steps_are run in
    let own : raised is.own ≡ raised (kept m is.account is.customer) = ap raised (value_is is.own (kept m is.account is.customer) runs.0) in
    let before = covers m is.account is.customer solvent in
    let enough : 2 ^ 64 ≤ raised (Some is.left) + raised (kept m (beside is.account) is.customer) = omega (arith, is.raised_by, own, before) in
    subst (λ done. AreSolvent (after_all (ops_of done) m)) (sym is.steps_are) (stay_solvent m is.account is.customer is.left solvent enough)

pub withdrawals_readable : (steps : List Step) → IsWithdrawal steps → Keeps AreReadable steps
withdrawals_readable steps is m readable run =
    subst (λ done. AreReadable (after_all (ops_of done) m)) (sym is.steps_are) (stay_readable m is.account is.customer is.left readable is.readable)

pub deposits_readable : (steps : List Step) → IsDeposit steps → Keeps AreReadable steps
deposits_readable steps is m readable run =
    subst (λ done. AreReadable (after_all (ops_of done) m)) (sym is.steps_are) (stay_readable m is.account is.customer is.left readable is.readable)
