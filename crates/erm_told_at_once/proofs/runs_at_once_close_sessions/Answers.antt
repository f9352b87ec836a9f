use Rattle.erm_told_at_once.proofs.Runs.{runs_close}
use Rattle.erm_told_at_once.proofs.runs_at_once_close_sessions.Goals as goal

pub returns : goal.returns
returns c = runs_close c.begun_transactions_are_runs.ensures c.answers_stay.ensures
