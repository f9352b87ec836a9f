use Rattle.erm_cut_at_once.proofs.Report.{close_unseen}
use Rattle.erm_cut_at_once.proofs.cut_runs_close_unseen.Goals as goal

pub returns : goal.returns
returns c = close_unseen c.begun_transactions_are_runs.ensures c.answers_stay.ensures
