use Rattle.erm_told_log.proofs.Stays.{met_stays}
use Rattle.erm_told_log.proofs.met_logs_stay.Goals as goal

pub returns : goal.returns
returns g c = λ v t earlier before now slots steps is leaves of_before of_now was is_now tail. met_stays g.L.RowLaw.law v t is leaves earlier before now slots steps of_before of_now was is_now tail
