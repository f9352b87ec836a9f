use Rattle.erm_told_limits.proofs.Given.{HistoryLaws, given}
use Rattle.erm_limits_at_once.proofs.Full.{cells_full, for_room}
use Rattle.erm_limits_at_once.proofs.runs_in_part_refuse_for_room.Goals as goal

pub returns : goal.returns
returns c =
    let histories : HistoryLaws = record {
      certified = c.prefixes_stand_alone.ensures.certified;
      snapshot = c.prefixes_stand_alone.ensures.snapshot;
      exists = c.serial_order_is_unique.ensures.exists;
      run_below = c.rows_run_serially.ensures.run_below;
      newest_below = c.rows_run_serially.ensures.newest_below;
      row = c.versions_are_unique.ensures.row;
      newest = c.versions_are_unique.ensures.newest;
    }
    in
    let ways = c.calls_stay_in_their_table.ensures in
    let laws = given histories (record { way = ways.way; met = ways.met; next = ways.next }) c.begun_transactions_are_runs.ensures in
    record {
      room = λ v f whole part answers closed opening run of. for_room laws c.zero_rows_are_not_reached.ensures c.begun_transactions_are_runs.ensures c.answers_stay.ensures v f whole part answers closed run opening of;
      cells = λ v f whole part answers closed run many drawn there.
          cells_full laws c.zero_rows_are_not_reached.ensures c.begun_transactions_are_runs.ensures c.answers_stay.ensures v f whole part answers closed run drawn there many;
    }
