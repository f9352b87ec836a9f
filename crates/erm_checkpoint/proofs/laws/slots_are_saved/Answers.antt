use Rattle.erm_checkpoint.proofs.Moments.{saved, torn_moments}
use Rattle.erm_checkpoint.proofs.laws.slots_are_saved.Goals as goal

pub returns-clause-torn : goal.returns-clause-torn
returns-clause-torn g c = torn_moments g.L.RowLaw.law.meets c.respects_rows.ensures.meets

pub returns-clause-saved : goal.returns-clause-saved
returns-clause-saved g c = saved g.L.RowLaw.law.meets c.respects_rows.ensures.meets
