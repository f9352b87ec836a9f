use Rattle.erm_model.specs.Committed.{HasSnapshotReplies}
use Rattle.erm_model.specs.Member.{◌∈◌}
use Rattle.erm_good_report.specs.Transactions.{Transaction, history_of, steps_of}
use Rattle.erm_lines_at_once.proofs.Parts.{whole_of}
use Rattle.erm_told_at_once.proofs.runs_at_once_have_snapshots.Goals as goal

pub returns : goal.returns
returns c = whole_of (λ opening whole part answers told. (t : Transaction) → t ∈ told → HasSnapshotReplies (history_of told) opening.map t.begin (steps_of t)) c.runs_in_part_are_told.ensures.snapshots
