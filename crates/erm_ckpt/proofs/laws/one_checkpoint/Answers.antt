use Rattle.erm_ckpt.proofs.OneRecovery.{same_checked, same_shown}
use Rattle.erm_ckpt.proofs.laws.one_checkpoint.Goals as goal

pub returns-clause-checks : goal.returns-clause-checks
returns-clause-checks g c = same_checked g.L.RowLaw.law.meets

pub returns-clause-shows : goal.returns-clause-shows
returns-clause-shows g c = same_shown g.L.RowLaw.law.meets
