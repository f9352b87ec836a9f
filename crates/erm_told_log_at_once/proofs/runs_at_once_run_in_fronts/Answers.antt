use Rattle.erm_told_log_at_once.proofs.Whole.{runs_fronts}
use Rattle.erm_told_log_at_once.proofs.runs_at_once_run_in_fronts.Goals as goal

pub returns : goal.returns
returns c = runs_fronts c.runs_in_part_are_told.ensures.tell c.told_fronts_run.ensures
