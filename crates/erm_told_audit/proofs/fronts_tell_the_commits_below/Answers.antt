use Rattle.erm_told_audit.proofs.Fronts.{front_tells}
use Rattle.erm_told_audit.proofs.fronts_tell_the_commits_below.Goals as goal

pub returns : goal.returns
returns g c = front_tells g.L.RowLaw.law.meets
