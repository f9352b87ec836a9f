use Rattle.erm_told_crash.proofs.Spare.{spare_tells_nothing}
use Rattle.erm_told_crash.proofs.spare_names_tell_nothing.Goals as goal

pub returns : goal.returns
returns c = spare_tells_nothing
