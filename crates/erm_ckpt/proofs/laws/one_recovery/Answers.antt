use Rattle.erm_ckpt.proofs.OneRecovery.{same_recovery}
use Rattle.erm_ckpt.proofs.laws.one_recovery.Goals as goal

pub returns : goal.returns
returns g c = same_recovery g.L.RowLaw.law.meets c.one_log_list.ensures
