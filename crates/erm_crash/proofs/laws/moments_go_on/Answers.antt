use Rattle.erm_crash.proofs.Moments.{go_on}
use Rattle.erm_crash.proofs.laws.moments_go_on.Goals as goal

pub returns : goal.returns
returns g c = go_on g.L.RowLaw.law.meets
