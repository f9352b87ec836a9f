use Rattle.erm_bad_reports.proofs.OfLines.{answer_breaks, close_breaks, lines_refused, number_breaks, phase_breaks}
use Rattle.erm_bad_reports.proofs.OfSafeBegins.{open_breaks}
use Rattle.erm_bad_reports.proofs.laws.lines_are_needed.Goals as goal

pub returns-clause-lines : goal.returns-clause-lines
returns-clause-lines c = lines_refused

pub returns-clause-fit : goal.returns-clause-fit
returns-clause-fit c = number_breaks

pub returns-clause-answered : goal.returns-clause-answered
returns-clause-answered c = answer_breaks

pub returns-clause-closes : goal.returns-clause-closes
returns-clause-closes c = close_breaks

pub returns-clause-phases : goal.returns-clause-phases
returns-clause-phases c = phase_breaks

pub returns-clause-closes_safe : goal.returns-clause-closes_safe
returns-clause-closes_safe c = open_breaks
