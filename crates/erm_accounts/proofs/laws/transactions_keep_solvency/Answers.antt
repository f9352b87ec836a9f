use Rattle.std.proofs.Common.{⊎_elim}
use Rattle.erm_accounts.proofs.laws.transactions_keep_solvency.Goals as goal

pub returns : goal.returns
returns c steps is =
    ⊎_elim (c.withdrawals_keep_solvency.ensures steps) (⊎_elim (c.deposits_keep_solvency.ensures steps) (c.readers_keep_invariants.ensures (record {}) steps)) is
