use Rattle.erm_told_log.proofs.Tails.{goes_on}
use Rattle.erm_told_log.proofs.flushed_logs_meet_more.Goals as goal

pub returns : goal.returns
returns g c = goes_on g.L.RowLaw.law.meets c.respects_rows.ensures.meets
