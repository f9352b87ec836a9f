use Rattle.erm_told_log.proofs.Runs.{meets_earlier}
use Rattle.erm_told_log.proofs.recovery_meets_earlier_blocks.Goals as goal

pub returns : goal.returns
returns g c = meets_earlier g.L.RowLaw.law.meets
