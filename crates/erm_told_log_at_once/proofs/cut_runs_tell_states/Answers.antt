use Rattle.erm_told_log_at_once.proofs.Cuts.{cuts_states}
use Rattle.erm_told_log_at_once.proofs.cut_runs_tell_states.Goals as goal

pub returns : goal.returns
returns c = cuts_states c.cut_runs_leave_worlds.ensures c.told_logs_tell_states.ensures.states
