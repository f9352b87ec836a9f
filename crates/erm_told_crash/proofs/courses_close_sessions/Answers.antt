use Rattle.erm_told_crash.proofs.Closings.{courses_close}
use Rattle.erm_told_crash.proofs.courses_close_sessions.Goals as goal

pub returns : goal.returns
returns c = courses_close c.executions_tell_sessions.ensures c.executions_go_on.ensures
