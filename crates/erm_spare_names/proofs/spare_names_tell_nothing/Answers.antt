use Rattle.erm_spare_names.proofs.Spare.{spare_tells_nothing}
use Rattle.erm_spare_names.proofs.spare_names_tell_nothing.Goals as goal

pub returns : goal.returns
returns c = spare_tells_nothing
