use Rattle.erm_bad_reports.proofs.OfReplies.{commit_breaks, exclusion_breaks, refusal_breaks, snapshot_breaks}
use Rattle.erm_bad_reports.proofs.laws.replies_are_needed.Goals as goal

pub returns-clause-snapshots : goal.returns-clause-snapshots
returns-clause-snapshots c = snapshot_breaks

pub returns-clause-commit : goal.returns-clause-commit
returns-clause-commit c = commit_breaks

pub returns-clause-exclusion : goal.returns-clause-exclusion
returns-clause-exclusion c = exclusion_breaks

pub returns-clause-refusal : goal.returns-clause-refusal
returns-clause-refusal c = refusal_breaks
