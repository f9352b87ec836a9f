use Rattle.erm_told_limits.proofs.Given.{HistoryLaws, given}
use Rattle.erm_told_limits.proofs.Given as limits
use Rattle.erm_tight.proofs.Whole.{KeyLaws, key_laws}
use Rattle.erm_tight_at_once.proofs.Windows.{have_tight_windows}
use Rattle.erm_tight_at_once.proofs.runs_at_once_have_tight_windows.Goals as goal

pub returns : goal.returns
returns c =
    let histories : HistoryLaws = record {
      certified = c.prefixes_stand_alone.ensures.certified;
      snapshot = c.prefixes_stand_alone.ensures.snapshot;
      exists = c.serial_order_is_unique.ensures.exists;
      run_below = c.rows_run_serially.ensures.run_below;
      newest_below = c.rows_run_serially.ensures.newest_below;
      row = c.versions_are_unique.ensures.row;
      newest = c.versions_are_unique.ensures.newest;
    } in
    let same : limits.HistoryLaws = record {
      certified = histories.certified;
      snapshot = histories.snapshot;
      exists = histories.exists;
      run_below = histories.run_below;
      newest_below = histories.newest_below;
      row = histories.row;
      newest = histories.newest;
    } in
    let keys : KeyLaws = key_laws c.nodes_are_read_back.ensures.record c.record_values.ensures.given c.record_values.ensures.found c.map_has_values_of_records.ensures.value c.nodes_are_read_back.ensures.found in
    let ways = c.calls_stay_in_their_table.ensures in
    let laws = given same (record { way = ways.way; met = ways.met; next = ways.next }) c.begun_transactions_are_runs.ensures in
    have_tight_windows keys laws histories c.begun_transactions_are_runs.ensures c.answers_stay.ensures c.runs_at_once_tell.ensures
