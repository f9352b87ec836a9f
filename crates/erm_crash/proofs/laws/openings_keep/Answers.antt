use Rattle.erm_crash.proofs.Opened.{opening_keeps}
use Rattle.erm_crash.proofs.laws.openings_keep.Goals as goal

pub returns : goal.returns
returns g c = opening_keeps g.L.RowLaw.law.meets
