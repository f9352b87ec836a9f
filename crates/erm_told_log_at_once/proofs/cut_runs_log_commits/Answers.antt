use Rattle.erm_told_log_at_once.proofs.Cuts.{cuts_logged}
use Rattle.erm_told_log_at_once.proofs.cut_runs_log_commits.Goals as goal

pub returns : goal.returns
returns c = cuts_logged c.cut_runs_leave_worlds.ensures c.told_logs_tell_states.ensures.commits
