-- Each event keeps the rows that claims leave and those that are installed.
use Rattle.erm_core_ssn.proofs.RowsKept.{kept}
use Rattle.erm_core_ssn.proofs.machine.rows_are_kept.Goals as goal

pub returns-clause-shared : goal.returns-clause-shared
returns-clause-shared c = λ a b seat kind sound e. (kept a seat kind b sound e).common

pub returns-clause-seats : goal.returns-clause-seats
returns-clause-seats c = λ a b seat kind sound e. (kept a seat kind b sound e).own
