use Rattle.erm_told.proofs.Executed.{executions_hold}
use Rattle.erm_told.proofs.executions_hold_savepoints.Goals as goal

pub returns : goal.returns
returns c = executions_hold c.begun_transactions_are_runs.ensures c.answers_stay.ensures
