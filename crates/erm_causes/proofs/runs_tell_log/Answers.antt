use Rattle.erm_causes.proofs.Logged.{runs_log}
use Rattle.erm_causes.proofs.runs_tell_log.Goals as goal

pub returns : goal.returns
returns c = runs_log c.executions_tell_sessions.ensures c.executions_go_on.ensures
