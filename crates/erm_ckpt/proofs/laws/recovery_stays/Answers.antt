use Rattle.erm_ckpt.proofs.Images.{stays}
use Rattle.erm_ckpt.proofs.laws.recovery_stays.Goals as goal

pub returns : goal.returns
returns g c = stays g.L.RowLaw.law.meets
