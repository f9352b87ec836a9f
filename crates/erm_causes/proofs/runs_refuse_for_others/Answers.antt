use Rattle.erm_causes.proofs.Own.{TreeLaws}
use Rattle.erm_causes.proofs.Shown.{runs_refuse}
use Rattle.erm_causes.proofs.runs_refuse_for_others.Goals as goal
use Rattle.erm_told_limits.proofs.Given.{HistoryLaws}

pub returns : goal.returns
returns c =
    let tree : TreeLaws = record {
      apart = c.tables_stand_apart.ensures.apart;
      one = c.tables_stand_apart.ensures.one;
      way = c.calls_stay_in_their_table.ensures.way;
      met = c.calls_stay_in_their_table.ensures.met;
      next = c.calls_stay_in_their_table.ensures.next;
      put = c.calls_stay_in_their_table.ensures.put;
      put_asks = c.calls_stay_in_their_table.ensures.put_asks;
      del = c.calls_stay_in_their_table.ensures.del;
      del_asks = c.calls_stay_in_their_table.ensures.del_asks;
    } in
    let laws : HistoryLaws = record {
      certified = c.prefixes_stand_alone.ensures.certified;
      snapshot = c.prefixes_stand_alone.ensures.snapshot;
      exists = c.serial_order_is_unique.ensures.exists;
      run_below = c.rows_run_serially.ensures.run_below;
      newest_below = c.rows_run_serially.ensures.newest_below;
      row = c.versions_are_unique.ensures.row;
      newest = c.versions_are_unique.ensures.newest;
    } in
    runs_refuse tree laws c.begun_transactions_are_runs.ensures c.answers_stay.ensures c.executions_tell_sessions.ensures c.executions_go_on.ensures c.claims_are_few.ensures
