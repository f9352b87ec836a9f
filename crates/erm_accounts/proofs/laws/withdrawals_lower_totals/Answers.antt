use Rattle.erm_accounts.proofs.Totals.{withdrawals_lower}
use Rattle.erm_accounts.proofs.laws.withdrawals_lower_totals.Goals as goal

pub returns : goal.returns
returns c = withdrawals_lower
