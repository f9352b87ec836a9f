use Rattle.erm_causes.proofs.Ordered.{ordered}
use Rattle.erm_causes.proofs.runs_are_serial_with_snapshots.Goals as goal

pub returns : goal.returns
returns c = ordered c.executions_tell_sessions.ensures c.executions_go_on.ensures c.ends_are_in_reach.ensures c.executions_keep_safe.ensures c.told_worlds_are_serial_with_snapshots.ensures
