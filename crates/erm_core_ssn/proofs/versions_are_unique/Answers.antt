use Rattle.erm_core_ssn.proofs.RowsRun.{one_row, one_newest}
use Rattle.erm_core_ssn.proofs.versions_are_unique.Goals as goal

pub returns-clause-row : goal.returns-clause-row
returns-clause-row c = one_row

pub returns-clause-newest : goal.returns-clause-newest
returns-clause-newest c = one_newest
