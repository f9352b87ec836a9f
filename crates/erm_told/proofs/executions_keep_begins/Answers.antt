use Rattle.erm_told.proofs.Lasting.{keep_begins}
use Rattle.erm_told.proofs.executions_keep_begins.Goals as goal

pub returns : goal.returns
returns c = keep_begins c.begun_transactions_are_runs.ensures c.answers_stay.ensures c.executions_go_on.ensures
