use Rattle.erm_model.specs.History.{below, rows_after}
use Rattle.erm_core_ssn.proofs.Prefixes.{in_below, snapshot_below, certified_below, newest_from_below}
use Rattle.erm_core_ssn.proofs.RowsRun.{runs_in_order, newest_in_order}
use Rattle.erm_core_ssn.proofs.rows_run_serially.Goals as goal

pub returns-clause-run : goal.returns-clause-run
returns-clause-run c = λ h opening snapshot certified order serial. (runs_in_order h opening snapshot certified order serial).0

pub returns-clause-newest : goal.returns-clause-newest
returns-clause-newest c = newest_in_order

pub returns-clause-run_below : goal.returns-clause-run_below
returns-clause-run_below c = λ h opening snapshot certified bound order serial.
    (runs_in_order (below bound h) opening (snapshot_below h bound opening snapshot) (certified_below h bound certified) order serial).0

pub returns-clause-newest_below : goal.returns-clause-newest_below
returns-clause-newest_below c = λ h opening snapshot certified bound order serial positive.
    newest_from_below h bound opening (rows_after order opening)
    (newest_in_order (below bound h) opening (snapshot_below h bound opening snapshot) (certified_below h bound certified) order serial bound positive (λ t there. (in_below h bound t there).1))
