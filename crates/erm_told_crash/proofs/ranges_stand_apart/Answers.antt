use Rattle.erm_told_crash.proofs.Ranges.{stand_apart}
use Rattle.erm_told_crash.proofs.ranges_stand_apart.Goals as goal

pub returns : goal.returns
returns c = stand_apart
