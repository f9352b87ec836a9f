use Rattle.std.proofs.Common.{ℕ, subst}
use Rattle.erm_model.specs.Committed.{rank_of}
use Rattle.erm_model.specs.SerialOrder.{IsSerialOrder}
use Rattle.erm_world.specs.World as world
use Rattle.erm_maps.specs.Runs.{told_commits}
use Rattle.erm_good_report.specs.Transactions.{progress_of}
use Rattle.erm_told_order.proofs.Orders.{are_runs, commits_told, serial_told}
use Rattle.erm_told_order.proofs.Places.{told_by}
use Rattle.erm_told_order.proofs.told_worlds_are_serial.Goals as goal

pub returns : goal.returns
returns c = λ f said told opening same order serial.
    let progress = λ (seat : ℕ). progress_of seat said in
    let holds = told.serializable in
    let tells = told.tells in
    let rows = c.serial_order_is_unique.ensures.exists (world.history_of f) holds.certified in
    let runs = c.histories_run_as_operations.ensures.serial f (told_by progress) rows.0 holds (are_runs f progress holds tells) rows.1 in
    let commits = told_commits (told_by progress) (world.history_of f) in
    let serial_told_so : IsSerialOrder rank_of commits order =
    subst (λ told. IsSerialOrder rank_of told order) (commits_told f progress holds tells) serial
    in
    serial_told f progress holds tells opening same rows.0 runs order
    (c.serial_order_is_unique.ensures.unique_for_sessions commits order (told_commits (told_by progress) rows.0) serial_told_so runs.serial)
