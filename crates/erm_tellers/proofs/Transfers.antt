-- A transfer leaves customers solvent, and accounts readable.
use Rattle.std.proofs.Common.{◌≡◌, ◌≢◌, ℕ, ◌+◌, ◌≤◌, ◌^◌, List, Option, Some, None, sym, ap, subst, ⊎_elim, arith}
use Rattle.std.specs.FinMap.{insert}
use Rattle.erm_accounts.proofs.Solvent.{stay_readable, stay_solvent}
use Rattle.erm_accounts.specs.Accounts.{Account, AreReadable, AreSolvent, Current, IsOfBank, Savings, beside, kept, raised, table_of}
use Rattle.erm_invariant.specs.Invariant.{Keeps}
use Rattle.erm_model.proofs.Keys.{value_at-insert_other}
use Rattle.erm_model.specs.Database.{Database, at}
use Rattle.erm_model.specs.declared.key.Key.{Key}
use Rattle.erm_model.specs.declared.operation.Reply.{Reply}
use Rattle.erm_model.specs.declared.operation.Reply.TheVariants as reply
use Rattle.erm_model.specs.Run.{RunsOne, Step, after_all, ops_of}
use Rattle.erm_tellers.specs.Tellers.{IsOfTellers, IsTransfer}

-- a reply of a value has one value
abbrev value_in : Reply → Option (List ℕ)
value_in (reply.Value v) = v
value_in r = None

pub value_is : (v w : Option (List ℕ)) → reply.Value v ≡ reply.Value w → v ≡ w
value_is v w same = ap value_in same

covers : (m : Database) (account : Account) (customer : ℕ) → AreSolvent m → 2 ^ 64 ≤ raised (kept m account customer) + raised (kept m (beside account) customer)
covers m Current customer solvent = solvent customer
covers m Savings customer solvent = omega (arith, solvent customer)

pub other_key : (table customer there c : ℕ) → c ≢ customer → at there c ≢ at table customer
other_key table customer there c other same = other (ap (λ (k : Key). k.key) same)

pub transfers : (steps : List Step) → IsTransfer steps → Keeps AreSolvent steps
transfers steps is m solvent run =
    let runs = subst (RunsOne m) is.steps_are run in
    let other : raised is.other ≡ raised (kept m (beside is.account) is.payer) = ap raised (value_is is.other (kept m (beside is.account) is.payer) runs.1.0) in
    let there : raised is.there ≡ raised (kept m is.to is.payee) = ap raised (value_is is.there (kept m is.to is.payee) runs.1.1.0) in
    let pays : 2 ^ 64 ≤ raised (Some is.left) + raised (kept m (beside is.account) is.payer) = omega (arith, is.covered, is.lowered, other) in
    let between = insert m (at (table_of is.account) is.payer) is.left in
    let first : AreSolvent between = stay_solvent m is.account is.payer is.left solvent pays in
    let still : kept between (beside is.to) is.payee ≡ kept m (beside is.to) is.payee =
    value_at-insert_other m (table_of is.account) is.payer is.left (table_of (beside is.to)) is.payee
    (other_key (table_of is.account) is.payer (table_of (beside is.to)) is.payee (λ (same : is.payee ≡ is.payer). is.apart (sym same))) in
    let before = covers m is.to is.payee solvent in
    let as_before : raised (kept between (beside is.to) is.payee) ≡ raised (kept m (beside is.to) is.payee) = ap raised still in
    let gets : 2 ^ 64 ≤ raised (Some is.more) + raised (kept between (beside is.to) is.payee) = omega (arith, is.raised_by, there, before, as_before) in
    subst (λ done. AreSolvent (after_all (ops_of done) m)) (sym is.steps_are) (stay_solvent between is.to is.payee is.more first gets)

pub keep_solvency : ((steps : List Step) → IsOfBank steps → Keeps AreSolvent steps) → (steps : List Step) → IsOfTellers steps → Keeps AreSolvent steps
keep_solvency of_bank steps kind = ⊎_elim (λ (is : IsOfBank steps). of_bank steps is) (λ (is : IsTransfer steps). transfers steps is) kind

transfers_readable : (steps : List Step) → IsTransfer steps → Keeps AreReadable steps
transfers_readable steps is m readable run =
    let between = insert m (at (table_of is.account) is.payer) is.left in
    subst (λ done. AreReadable (after_all (ops_of done) m)) (sym is.steps_are)
    (stay_readable between is.to is.payee is.more (stay_readable m is.account is.payer is.left readable is.readable.0) is.readable.1)

pub keep_readable : ((steps : List Step) → IsOfBank steps → Keeps AreReadable steps) → (steps : List Step) → IsOfTellers steps → Keeps AreReadable steps
keep_readable of_bank steps kind = ⊎_elim (λ (is : IsOfBank steps). of_bank steps is) (λ (is : IsTransfer steps). transfers_readable steps is) kind
