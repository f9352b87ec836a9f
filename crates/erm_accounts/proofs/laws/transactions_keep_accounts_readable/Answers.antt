use Rattle.std.proofs.Common.{⊎_elim}
use Rattle.erm_accounts.proofs.laws.transactions_keep_accounts_readable.Goals as goal
use Rattle.erm_accounts.proofs.Solvent.{deposits_readable, withdrawals_readable}

pub returns : goal.returns
returns c steps is = ⊎_elim (withdrawals_readable steps) (⊎_elim (deposits_readable steps) (c.readers_keep_invariants.ensures (record {}) steps)) is
