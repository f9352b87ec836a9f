use Rattle.erm_told_log_at_once.proofs.Whole.{runs_states}
use Rattle.erm_told_log_at_once.proofs.runs_at_once_tell_states.Goals as goal

pub returns : goal.returns
returns c = runs_states c.runs_in_part_are_told.ensures.tell c.told_logs_tell_states.ensures.states
