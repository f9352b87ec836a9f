use Rattle.erm_told_log.proofs.Opened.{opened_meets}
use Rattle.erm_told_log.proofs.opened_logs_meet_the_blocks_found.Goals as goal

pub returns : goal.returns
returns g c = opened_meets g.L.RowLaw.law.meets
