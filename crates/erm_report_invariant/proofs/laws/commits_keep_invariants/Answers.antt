use Rattle.erm_report_invariant.proofs.Told.{commits_keep}
use Rattle.erm_report_invariant.proofs.laws.commits_keep_invariants.Goals as goal

pub returns : goal.returns
returns g c invariant = commits_keep (g.I.Invariant.holds invariant)
