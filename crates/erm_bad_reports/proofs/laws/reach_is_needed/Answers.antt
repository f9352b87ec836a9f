use Rattle.erm_bad_reports.proofs.OfReach.{begun_far_breaks, drawn_far_breaks}
use Rattle.erm_bad_reports.proofs.OfWaiting.{waited_far_breaks}
use Rattle.erm_bad_reports.proofs.laws.reach_is_needed.Goals as goal

pub returns-clause-begins : goal.returns-clause-begins
returns-clause-begins c = begun_far_breaks

pub returns-clause-draws : goal.returns-clause-draws
returns-clause-draws c = drawn_far_breaks

pub returns-clause-waits : goal.returns-clause-waits
returns-clause-waits c = waited_far_breaks
