use Rattle.erm_told_limits.proofs.Given as limits
use Rattle.erm_told_limits.proofs.Holds.{Laws}
use Rattle.erm_told_limits.proofs.Given.{HistoryLaws}
use Rattle.erm_tight.proofs.NewRuns.{oids_full_of}
use Rattle.erm_tight.proofs.Whole.{KeyLaws, key_laws}
use Rattle.erm_tight.proofs.oids_are_full.Goals as goal

pub returns : goal.returns
returns c =
    let laws : HistoryLaws = record {
      certified = c.prefixes_stand_alone.ensures.certified;
      snapshot = c.prefixes_stand_alone.ensures.snapshot;
      exists = c.serial_order_is_unique.ensures.exists;
      run_below = c.rows_run_serially.ensures.run_below;
      newest_below = c.rows_run_serially.ensures.newest_below;
      row = c.versions_are_unique.ensures.row;
      newest = c.versions_are_unique.ensures.newest;
    } in
    let histories : limits.HistoryLaws = record {
      certified = c.prefixes_stand_alone.ensures.certified;
      snapshot = c.prefixes_stand_alone.ensures.snapshot;
      exists = c.serial_order_is_unique.ensures.exists;
      run_below = c.rows_run_serially.ensures.run_below;
      newest_below = c.rows_run_serially.ensures.newest_below;
      row = c.versions_are_unique.ensures.row;
      newest = c.versions_are_unique.ensures.newest;
    } in
    let ways = c.calls_stay_in_their_table.ensures in
    let given : Laws = limits.given histories (record { way = ways.way; met = ways.met; next = ways.next }) c.begun_transactions_are_runs.ensures in
    let keys : KeyLaws = key_laws c.nodes_are_read_back.ensures.record c.record_values.ensures.given c.record_values.ensures.found c.map_has_values_of_records.ensures.value c.nodes_are_read_back.ensures.found in
    λ v t script answers run i drawn e.
    oids_full_of laws given keys c.begun_transactions_are_runs.ensures c.answers_stay.ensures c.executions_tell_sessions.ensures v run.opened t script answers run i drawn e
