use Rattle.erm_lines.proofs.Left.{closes_leave, lines_leave}
use Rattle.erm_lines.proofs.laws.lines_leave_the_log.Goals as goal

pub returns-clause-lines : goal.returns-clause-lines
returns-clause-lines c = lines_leave

pub returns-clause-closes : goal.returns-clause-closes
returns-clause-closes c = closes_leave
