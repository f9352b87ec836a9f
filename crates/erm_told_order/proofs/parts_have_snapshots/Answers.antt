use Rattle.erm_model.specs.Committed.{HasSnapshotReplies}
use Rattle.erm_model.specs.Member.{◌∈◌}
use Rattle.erm_good_report.specs.Transactions.{Transaction, history_of, steps_of}
use Rattle.erm_told.proofs.Courses.{of_parts}
use Rattle.erm_told_order.proofs.Ends.{snapshots}
use Rattle.erm_told_order.proofs.parts_have_snapshots.Goals as goal

pub returns : goal.returns
returns c = of_parts (λ opening script answers closed told. (t : Transaction) → t ∈ told → HasSnapshotReplies (history_of told) opening.map t.begin (steps_of t))
    (snapshots c.executions_tell_sessions.ensures c.executions_go_on.ensures c.told_worlds_have_snapshots.ensures)
