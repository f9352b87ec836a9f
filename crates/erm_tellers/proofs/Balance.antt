-- What the tellers' transactions do to the total of customers from low to high.
use Rattle.std.proofs.Common.{◌≡◌, ℕ, ◌+◌, List, [], ◌∷◌, ◌++◌, Some, inl, inr, refl, sym, ap, ◌∙◌, subst, arith}
use Rattle.std.specs.FinMap.{insert}
use Rattle.erm_accounts.proofs.Totals.{total_lowered, total_raised, within-inside}
use Rattle.erm_accounts.specs.Accounts.{kept, raised, table_of}
use Rattle.erm_accounts.specs.Totals.{AuditsLeaveTotals, DepositsRaiseTotals, HoldInAll, WithdrawalsLowerTotals, total, within}
use Rattle.erm_invariant.specs.Commits.{transactions_in}
use Rattle.erm_invariant.specs.Invariant.{Keeps}
use Rattle.erm_model.proofs.Keys.{value_at-insert_other}
use Rattle.erm_model.specs.Committed.{Committed, state_after}
use Rattle.erm_model.specs.Database.{Database, at}
use Rattle.erm_model.specs.Run.{RunsAll, RunsOne, Step, after_all, ops_of}
use Rattle.erm_tellers.proofs.Transfers.{other_key, value_is}
use Rattle.erm_tellers.specs.Moves.{AreOfTellers, MovesAmong, TransactionsMoveTotals, all_came, all_gone}
use Rattle.erm_tellers.specs.Tellers.{IsTransfer}

-- a transfer lowers and raises
transfers_move : (steps : List Step) (is : IsTransfer steps) (m : Database) → RunsOne m steps → (low high : ℕ)
    → total (after_all (ops_of steps) m) low high + within low high is.payer is.amount ≡ total m low high + within low high is.payee is.amount
transfers_move steps is m run low high =
    let runs = subst (RunsOne m) is.steps_are run in
    let own : raised is.own ≡ raised (kept m is.account is.payer) = ap raised (value_is is.own (kept m is.account is.payer) runs.0) in
    let there : raised is.there ≡ raised (kept m is.to is.payee) = ap raised (value_is is.there (kept m is.to is.payee) runs.1.1.0) in
    let between = insert m (at (table_of is.account) is.payer) is.left in
    let still : raised (kept between is.to is.payee) ≡ raised (kept m is.to is.payee) =
    ap raised (value_at-insert_other m (table_of is.account) is.payer is.left (table_of is.to) is.payee
    (other_key (table_of is.account) is.payer (table_of is.to) is.payee (λ (same : is.payee ≡ is.payer). is.apart (sym same)))) in
    let lowered : raised (Some is.left) + is.amount ≡ raised (kept m is.account is.payer) = is.lowered ∙ own in
    let more : raised (Some is.more) ≡ raised (kept between is.to is.payee) + is.amount = is.raised_by ∙ ap (λ (n : ℕ). n + is.amount) (there ∙ sym still) in
    let first = total_lowered m is.account is.payer is.left low high is.amount lowered in
    let second = total_raised between is.to is.payee is.more low high is.amount more in
    subst (λ done. total (after_all (ops_of done) m) low high + within low high is.payer is.amount ≡ total m low high + within low high is.payee is.amount) (sym is.steps_are)
    (omega (arith, first, second))

pub transactions_move : DepositsRaiseTotals → WithdrawalsLowerTotals → AuditsLeaveTotals → TransactionsMoveTotals
transactions_move deposits withdrawals audits steps (inl (inl is)) m run low high = omega (arith, withdrawals steps is m run low high)
transactions_move deposits withdrawals audits steps (inl (inr (inl is))) m run low high = omega (arith, deposits steps is m run low high)
transactions_move deposits withdrawals audits steps (inl (inr (inr is))) m run low high = omega (arith, audits steps is m run low high)
transactions_move deposits withdrawals audits steps (inr is) m run low high = transfers_move steps is m run low high

-- SO MANY, one after another
pub all_move : TransactionsMoveTotals → (xs rest : List Committed) (are : AreOfTellers xs) (m n : Database) → RunsAll m (transactions_in (xs ++ rest)) n → (low high : ℕ)
    → total (state_after xs m) low high + all_gone low high xs are ≡ total m low high + all_came low high xs are
all_move moves [] rest are m n run low high = refl
all_move moves (x ∷ xs) rest are m n run low high =
    let one = moves x.steps are.0 m run.0 low high in
    let others = all_move moves xs rest are.1 (after_all (ops_of x.steps) m) n run.1 low high in
    omega (arith, one, others)

-- TRANSFERS among these customers, and audits
pub among_keep : TransactionsMoveTotals → (low high n : ℕ) (steps : List Step) → MovesAmong low high steps → Keeps (λ (m : Database). HoldInAll m low high n) steps
among_keep moves low high n steps (inl among) m holds run =
    let moved = moves steps (inr among.is) m run low high in
    let payer = within-inside low high among.is.payer among.is.amount among.payer_above among.payer_below in
    let payee = within-inside low high among.is.payee among.is.amount among.payee_above among.payee_below in
    omega (arith, holds, moved, payer, payee)
among_keep moves low high n steps (inr audit) m holds run = let moved = moves steps (inl (inr (inr audit))) m run low high in omega (arith, holds, moved)
