use Rattle.std.proofs.Common.{inr}
use Rattle.erm_disk_run.proofs.Followed.{may_be_followed}
use Rattle.erm_disk_run.proofs.laws.stopped_runs_may_be_followed.Goals as goal

pub returns-clause-runs : goal.returns-clause-runs
returns-clause-runs c = λ commits from old new now kept since m tears. may_be_followed c.one_recovery.ensures commits from old new now kept (inr since.0) m tears

pub returns-clause-openings : goal.returns-clause-openings
returns-clause-openings c = λ commits from old new now kept once m tears. may_be_followed c.one_recovery.ensures commits from old new now kept once.0 m tears
