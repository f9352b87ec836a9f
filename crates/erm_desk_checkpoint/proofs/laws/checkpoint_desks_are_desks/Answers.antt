use Rattle.erm_desk_checkpoint.proofs.Desks.{kept_desk}
use Rattle.erm_desk_checkpoint.proofs.laws.checkpoint_desks_are_desks.Goals as goal

pub returns : goal.returns
returns g c o began faults slots s kept fine = kept_desk g.L.RowLaw.law c.kept_logs_begin.ensures o began faults slots s kept fine
