use Rattle.erm_told_log_at_once.proofs.Cuts.{cuts_fronts}
use Rattle.erm_told_log_at_once.proofs.cut_runs_run_in_fronts.Goals as goal

pub returns : goal.returns
returns c = cuts_fronts c.cut_runs_leave_worlds.ensures c.told_fronts_run.ensures
