use Rattle.erm_accounts.proofs.Totals.{deposits_raise}
use Rattle.erm_accounts.proofs.laws.deposits_raise_totals.Goals as goal

pub returns : goal.returns
returns c = deposits_raise
