use Rattle.erm_crash.proofs.Stays.{kept_stays}
use Rattle.erm_crash.proofs.laws.kept_logs_stay.Goals as goal

pub returns : goal.returns
returns g c = λ v t place before now slots old steps is leaves of_before of_now was is_now. kept_stays g.L.RowLaw.law v t is leaves before now of_before of_now was is_now place slots old steps
