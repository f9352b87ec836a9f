use Rattle.erm_accounts.proofs.Solvent.{deposits}
use Rattle.erm_accounts.proofs.laws.deposits_keep_solvency.Goals as goal

pub returns : goal.returns
returns c = deposits
