use Rattle.std.proofs.Common.{List}
use Rattle.erm_model.specs.Committed.{Committed, RunsInOrder, rank_of, state_after}
use Rattle.erm_model.specs.SerialOrder.{IsSerialOrder}
use Rattle.erm_good_report.specs.Transactions.{history_of}
use Rattle.erm_told.proofs.Courses.{of_runs}
use Rattle.erm_told_order.proofs.Ends.{serial}
use Rattle.erm_told_order.proofs.runs_are_serial.Goals as goal

pub returns : goal.returns
returns c = of_runs (λ opening script answers closed told. (order : List Committed) → IsSerialOrder rank_of (history_of told) order → RunsInOrder order opening.map (state_after order opening.map))
    (serial c.executions_tell_sessions.ensures c.executions_go_on.ensures c.told_worlds_are_serial.ensures)
