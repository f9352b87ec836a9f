use Rattle.erm_bad_reports.proofs.OfGood.{is_good}
use Rattle.erm_bad_reports.proofs.laws.snapshots_may_be_good.Goals as goal

pub returns : goal.returns
returns c = is_good
