use Rattle.erm_bad_reports.proofs.OfOrder.{ascending_breaks, runs_break, serial_breaks}
use Rattle.erm_bad_reports.proofs.laws.order_is_needed.Goals as goal

pub returns-clause-serial : goal.returns-clause-serial
returns-clause-serial c = serial_breaks

pub returns-clause-ascending : goal.returns-clause-ascending
returns-clause-ascending c = ascending_breaks

pub returns-clause-runs : goal.returns-clause-runs
returns-clause-runs c = runs_break
