use Rattle.erm_bad_reports.proofs.OfPlaced.{behind_breaks, left_breaks, turned_breaks}
use Rattle.erm_bad_reports.proofs.laws.places_are_needed.Goals as goal

pub returns-clause-behind : goal.returns-clause-behind
returns-clause-behind c = behind_breaks

pub returns-clause-turned : goal.returns-clause-turned
returns-clause-turned c = turned_breaks

pub returns-clause-left : goal.returns-clause-left
returns-clause-left c = left_breaks
