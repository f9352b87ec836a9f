use Rattle.erm_bad_reports.proofs.OfStamps.{future_breaks, least_breaks}
use Rattle.erm_bad_reports.proofs.laws.stamps_are_needed.Goals as goal

pub returns-clause-least : goal.returns-clause-least
returns-clause-least c = least_breaks

pub returns-clause-draws : goal.returns-clause-draws
returns-clause-draws c = future_breaks
