use Rattle.erm_told.proofs.Executed.{executions_tell}
use Rattle.erm_told.proofs.executions_tell_sessions.Goals as goal

pub returns : goal.returns
returns c = executions_tell c.begun_transactions_are_runs.ensures c.answers_stay.ensures
