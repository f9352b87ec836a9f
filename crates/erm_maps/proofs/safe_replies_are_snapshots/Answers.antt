use Rattle.erm_model.specs.History.{below, rows_after}
use Rattle.erm_node.specs.TreeMap.{map_of_rows}
use Rattle.erm_world.specs.World.{history_of}
use Rattle.erm_maps.proofs.safe_replies_are_snapshots.Goals as goal

pub returns : goal.returns
returns c = λ v told b steps holds runs above ran.
    let certified = c.prefixes_stand_alone.ensures.certified (history_of v) holds.certified b in
    let found = c.serial_order_is_unique.ensures.exists (below b (history_of v)) certified in
    let stands = c.histories_run_as_operations.ensures.states v told b found.0 holds runs found.1 in
    record {
      snapshot = map_of_rows (rows_after found.0 v.opening.rows);
      below_begin = stands.state;
      replies =
          ran (rows_after found.0 v.opening.rows) stands.sound
          (c.rows_run_serially.ensures.newest_below (history_of v) v.opening.rows holds.snapshots holds.certified b found.0 found.1 above);
    }
