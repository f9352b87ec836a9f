use Rattle.erm_bad_reports.proofs.OfSafeAtOnce.{beside_breaks, wait_breaks}
use Rattle.erm_bad_reports.proofs.OfWatched.{met_breaks, owned_breaks}
use Rattle.erm_bad_reports.proofs.laws.snapshots_at_once_are_needed.Goals as goal

pub returns-clause-waits : goal.returns-clause-waits
returns-clause-waits c = wait_breaks

pub returns-clause-back : goal.returns-clause-back
returns-clause-back c = beside_breaks

pub returns-clause-met : goal.returns-clause-met
returns-clause-met c = met_breaks

pub returns-clause-named : goal.returns-clause-named
returns-clause-named c = owned_breaks
