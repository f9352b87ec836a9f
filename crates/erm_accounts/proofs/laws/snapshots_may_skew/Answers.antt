use Rattle.erm_accounts.proofs.Skew.{skews}
use Rattle.erm_accounts.proofs.laws.snapshots_may_skew.Goals as goal

pub returns : goal.returns
returns c = skews
