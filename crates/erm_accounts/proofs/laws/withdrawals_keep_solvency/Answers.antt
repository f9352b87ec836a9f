use Rattle.erm_accounts.proofs.Solvent.{withdrawals}
use Rattle.erm_accounts.proofs.laws.withdrawals_keep_solvency.Goals as goal

pub returns : goal.returns
returns c = withdrawals
