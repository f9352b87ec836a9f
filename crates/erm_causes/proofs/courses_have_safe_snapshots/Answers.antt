use Rattle.erm_causes.proofs.Safe.{safe_snapshots}
use Rattle.erm_causes.proofs.courses_have_safe_snapshots.Goals as goal

pub returns : goal.returns
returns c = safe_snapshots c.executions_tell_sessions.ensures c.executions_go_on.ensures c.executions_keep_begins.ensures c.ends_are_in_reach.ensures c.courses_keep_snapshots.ensures
