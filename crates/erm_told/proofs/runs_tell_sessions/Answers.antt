use Rattle.erm_told.proofs.Runs.{runs_tell}
use Rattle.erm_told.proofs.runs_tell_sessions.Goals as goal

pub returns : goal.returns
returns c = runs_tell c.executions_tell_sessions.ensures
