use Rattle.erm_ckpt.proofs.Images.{goes_on}
use Rattle.erm_ckpt.proofs.laws.recovery_goes_on.Goals as goal

pub returns : goal.returns
returns g c = goes_on g.L.RowLaw.law.meets c.respects_rows.ensures.meets
