use Rattle.erm_told_crash.proofs.States.{courses_tell_states}
use Rattle.erm_told_crash.proofs.logs_tell_states.Goals as goal

pub returns : goal.returns
returns c = courses_tell_states c.executions_tell_sessions.ensures c.executions_go_on.ensures c.ranges_stand_apart.ensures c.told_logs_tell_states.ensures.states
