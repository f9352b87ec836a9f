use Rattle.erm_told_log_at_once.proofs.Whole.{runs_logged}
use Rattle.erm_told_log_at_once.proofs.runs_at_once_log_commits.Goals as goal

pub returns : goal.returns
returns c = runs_logged c.runs_in_part_are_told.ensures.tell c.told_logs_tell_states.ensures.commits
