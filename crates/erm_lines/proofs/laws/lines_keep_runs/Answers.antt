use Rattle.erm_lines.proofs.Keeping.{end_keeps, line_keeps, log_keeps}
use Rattle.erm_lines.proofs.laws.lines_keep_runs.Goals as goal

pub returns-clause-lines : goal.returns-clause-lines
returns-clause-lines c = line_keeps c.begun_transactions_are_runs.ensures

pub returns-clause-logs : goal.returns-clause-logs
returns-clause-logs c = log_keeps

pub returns-clause-ends : goal.returns-clause-ends
returns-clause-ends c = end_keeps c.begun_transactions_are_runs.ensures
