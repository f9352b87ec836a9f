use Rattle.erm_crash.proofs.Stays.{may_open}
use Rattle.erm_crash.proofs.laws.kept_images_may_open.Goals as goal

pub returns : goal.returns
returns g c = may_open g.L.RowLaw.law.meets c.one_recovery.ensures
