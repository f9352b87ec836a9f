use Rattle.erm_told_fronts.proofs.Courses.{courses_run}
use Rattle.erm_told_fronts.proofs.courses_run_in_fronts.Goals as goal

pub returns : goal.returns
returns c = courses_run c.executions_tell_sessions.ensures c.executions_go_on.ensures c.told_fronts_run.ensures
