use Rattle.erm_told_log.proofs.Images.{image_meets}
use Rattle.erm_told_log.proofs.images_meet_a_front.Goals as goal

pub returns : goal.returns
returns g c = image_meets g.L.RowLaw.law.meets
