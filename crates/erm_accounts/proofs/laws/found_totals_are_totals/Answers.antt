use Rattle.erm_accounts.proofs.Found.{found_totals}
use Rattle.erm_accounts.proofs.laws.found_totals_are_totals.Goals as goal

pub returns : goal.returns
returns c = found_totals
