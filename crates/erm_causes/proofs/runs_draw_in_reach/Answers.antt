use Rattle.erm_causes.proofs.Drawing.{draws}
use Rattle.erm_causes.proofs.runs_draw_in_reach.Goals as goal

pub returns : goal.returns
returns c = draws c.executions_tell_sessions.ensures c.executions_go_on.ensures c.ends_are_in_reach.ensures
