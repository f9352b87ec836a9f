use Rattle.std.proofs.Common.{[], refl}
use Rattle.erm_told_limits.proofs.At.{opened_holds, tail_after}
use Rattle.erm_told_limits.proofs.Given.{HistoryLaws, given}
use Rattle.erm_told_limits.proofs.ends_are_in_reach.Goals as goal

pub returns : goal.returns
returns c =
    let histories : HistoryLaws = record {
      certified = c.prefixes_stand_alone.ensures.certified;
      snapshot = c.prefixes_stand_alone.ensures.snapshot;
      exists = c.serial_order_is_unique.ensures.exists;
      run_below = c.rows_run_serially.ensures.run_below;
      newest_below = c.rows_run_serially.ensures.newest_below;
      row = c.versions_are_unique.ensures.row;
      newest = c.versions_are_unique.ensures.newest;
    }
    in
    let ways = c.calls_stay_in_their_table.ensures in
    let laws = given histories (record { way = ways.way; met = ways.met; next = ways.next }) c.begun_transactions_are_runs.ensures in
    λ v u script answers opened runs.
    tail_after laws v script answers [] [] v u (opened_holds v opened) refl runs
