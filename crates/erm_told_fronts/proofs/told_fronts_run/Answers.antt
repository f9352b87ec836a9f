use Rattle.std.proofs.Common.{ℕ}
use Rattle.erm_model.specs.History.{below}
use Rattle.erm_world.specs.World as world
use Rattle.erm_good_report.specs.Transactions.{history_of, progress_of}
use Rattle.erm_told_order.specs.Told.{told_in}
use Rattle.erm_told_order.proofs.Orders.{are_runs, commits_told}
use Rattle.erm_told_order.proofs.Places.{told_by}
use Rattle.erm_told_fronts.proofs.Fronts.{front_runs}
use Rattle.erm_told_fronts.proofs.told_fronts_run.Goals as goal

pub returns : goal.returns
returns c = λ f said told opening same bound order serial.
    let progress = λ (seat : ℕ). progress_of seat said in
    let holds = told.serializable in
    let history = world.history_of f in
    let certified = c.prefixes_stand_alone.ensures.certified history holds.certified bound in
    let rows = c.serial_order_is_unique.ensures.exists (below bound history) certified in
    front_runs f (told_by progress) holds (are_runs f progress holds told.tells) bound rows.0
    (record {
      serial = rows.1;
      run = c.rows_run_serially.ensures.run_below history f.opening.rows holds.snapshots holds.certified bound rows.0 rows.1;
      one_row =
          c.versions_are_unique.ensures.row (below bound history) f.opening.rows (c.prefixes_stand_alone.ensures.snapshot history f.opening.rows holds.snapshots bound) certified;
    })
    c.serial_order_is_unique.ensures.unique_for_sessions (history_of (told_in f said)) (commits_told f progress holds told.tells) opening same order serial
