use Rattle.erm_told_log_at_once.proofs.Whole.{runs_few}
use Rattle.erm_told_log_at_once.proofs.runs_at_once_cut_few.Goals as goal

pub returns : goal.returns
returns c = runs_few
