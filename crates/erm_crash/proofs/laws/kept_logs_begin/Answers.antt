use Rattle.erm_crash.proofs.Since.{kept_begins}
use Rattle.erm_crash.proofs.laws.kept_logs_begin.Goals as goal

pub returns : goal.returns
returns g c = kept_begins g.L.RowLaw.law.meets
