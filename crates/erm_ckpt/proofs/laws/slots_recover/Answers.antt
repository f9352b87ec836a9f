use Rattle.erm_ckpt.proofs.Images.{by_slot}
use Rattle.erm_ckpt.proofs.laws.slots_recover.Goals as goal

pub returns : goal.returns
returns g c = by_slot g.L.RowLaw.law.meets c.respects_rows.ensures.meets
