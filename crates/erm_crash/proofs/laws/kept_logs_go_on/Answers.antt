use Rattle.erm_crash.proofs.Since.{kept_goes_on}
use Rattle.erm_crash.proofs.laws.kept_logs_go_on.Goals as goal

pub returns : goal.returns
returns g c = kept_goes_on g.L.RowLaw.law.meets
