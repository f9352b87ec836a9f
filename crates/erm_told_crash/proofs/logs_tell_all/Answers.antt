use Rattle.erm_told_crash.proofs.States.{runs_tell_all}
use Rattle.erm_told_crash.proofs.logs_tell_all.Goals as goal

pub returns : goal.returns
returns c = runs_tell_all c.executions_tell_sessions.ensures c.executions_go_on.ensures c.ranges_stand_apart.ensures c.told_logs_tell_states.ensures.all
