use Rattle.erm_crash.proofs.Stays.{held_stays}
use Rattle.erm_crash.proofs.laws.held_logs_stay.Goals as goal

pub returns : goal.returns
returns g c = λ v t before now slots steps is leaves of_before of_now was is_now. held_stays g.L.RowLaw.law v t is leaves before now of_before of_now was is_now slots steps
