use Rattle.erm_causes.proofs.Held.{runs_saves}
use Rattle.erm_causes.proofs.runs_tell_saves.Goals as goal

pub returns : goal.returns
returns c = runs_saves c.executions_tell_sessions.ensures c.executions_go_on.ensures c.executions_hold_savepoints.ensures
