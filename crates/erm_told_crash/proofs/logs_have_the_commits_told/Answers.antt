use Rattle.erm_told_crash.proofs.Logged.{log_commits}
use Rattle.erm_told_crash.proofs.logs_have_the_commits_told.Goals as goal

pub returns : goal.returns
returns c = log_commits c.executions_tell_sessions.ensures c.executions_go_on.ensures c.ranges_stand_apart.ensures c.told_logs_tell_states.ensures.commits
