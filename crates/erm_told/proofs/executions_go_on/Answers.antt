use Rattle.erm_told.proofs.Executed.{executions_go}
use Rattle.erm_told.proofs.executions_go_on.Goals as goal

pub returns : goal.returns
returns c = executions_go c.begun_transactions_are_runs.ensures c.answers_stay.ensures
