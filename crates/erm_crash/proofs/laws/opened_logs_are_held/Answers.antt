use Rattle.erm_crash.proofs.Opened.{opened_holds}
use Rattle.erm_crash.proofs.laws.opened_logs_are_held.Goals as goal

pub returns : goal.returns
returns g c = opened_holds g.L.RowLaw.law.meets
