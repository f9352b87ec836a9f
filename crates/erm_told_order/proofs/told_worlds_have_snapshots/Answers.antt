use Rattle.std.proofs.Common.{ℕ}
use Rattle.erm_good_report.specs.Transactions.{progress_of}
use Rattle.erm_told_order.proofs.Orders.{are_runs, snapshots_told}
use Rattle.erm_told_order.proofs.Places.{told_by}
use Rattle.erm_told_order.proofs.told_worlds_have_snapshots.Goals as goal

pub returns : goal.returns
returns c = λ f said told opening same.
    let progress = λ (seat : ℕ). progress_of seat said in
    snapshots_told f progress told.serializable told.tells opening same
    (c.histories_run_as_operations.ensures.snapshots f (told_by progress) told.serializable (are_runs f progress told.serializable told.tells))
