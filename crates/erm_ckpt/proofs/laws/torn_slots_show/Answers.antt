use Rattle.erm_ckpt.proofs.OneRecovery.{torn_shows}
use Rattle.erm_ckpt.proofs.laws.torn_slots_show.Goals as goal

pub returns : goal.returns
returns g c = torn_shows g.L.RowLaw.law.meets
