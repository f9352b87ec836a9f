use Rattle.erm_told.proofs.Runs.{runs_close}
use Rattle.erm_told.proofs.runs_close_sessions.Goals as goal

pub returns : goal.returns
returns c = runs_close c.executions_tell_sessions.ensures c.executions_go_on.ensures
