use Rattle.erm_accounts.proofs.Found.{hold}
use Rattle.erm_accounts.proofs.laws.solvent_customers_hold.Goals as goal

pub returns : goal.returns
returns c = hold
