use Rattle.erm_core_back.proofs.Raised.{raised_kept}
use Rattle.erm_core_back.proofs.snapshots_stay_raised.Goals as goal

pub returns : goal.returns
returns g c d seat kind sound e = raised_kept c seat kind d sound e
