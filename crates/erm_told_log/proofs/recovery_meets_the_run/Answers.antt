use Rattle.erm_told_log.proofs.Runs.{meets_run}
use Rattle.erm_told_log.proofs.recovery_meets_the_run.Goals as goal

pub returns : goal.returns
returns g c = meets_run g.L.RowLaw.law.meets
