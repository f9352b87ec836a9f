use Rattle.erm_told_log.proofs.Tails.{passes_all}
use Rattle.erm_told_log.proofs.checkpoints_pass_all.Goals as goal

pub returns : goal.returns
returns g c = passes_all g.L.RowLaw.law.meets
