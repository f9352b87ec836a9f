use Rattle.erm_bad_reports.proofs.OfCauses.{excluded_predecessor_breaks, excluded_successor_breaks, opens_breaks, successor_breaks}
use Rattle.erm_bad_reports.proofs.OfReaders.{excludes_breaks, precedes_breaks}
use Rattle.erm_bad_reports.proofs.laws.causes_of_windows_are_needed.Goals as goal

pub returns-clause-successor : goal.returns-clause-successor
returns-clause-successor c = successor_breaks

pub returns-clause-opens : goal.returns-clause-opens
returns-clause-opens c = opens_breaks

pub returns-clause-excluded_predecessor : goal.returns-clause-excluded_predecessor
returns-clause-excluded_predecessor c = excluded_predecessor_breaks

pub returns-clause-excluded_successor : goal.returns-clause-excluded_successor
returns-clause-excluded_successor c = excluded_successor_breaks

pub returns-clause-read_beside : goal.returns-clause-read_beside
returns-clause-read_beside c = precedes_breaks

pub returns-clause-excluded_beside : goal.returns-clause-excluded_beside
returns-clause-excluded_beside c = excludes_breaks
