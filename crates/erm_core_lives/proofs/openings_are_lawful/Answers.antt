use Rattle.erm_core_lives.proofs.Openings.{opening_lawful}
use Rattle.erm_core_lives.proofs.openings_are_lawful.Goals as goal

pub returns : goal.returns
returns g c sessions rows tail run first cells meets unreached = opening_lawful g.L.RowLaw.law sessions rows tail run first cells c.respects_rows.ensures meets unreached
