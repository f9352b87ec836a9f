use Rattle.std.proofs.Common.{◌+◌, sym, subst}
use Rattle.erm_model.specs.History.{below, rank_of}
use Rattle.erm_model.specs.SerialOrder.{IsSerialOrder}
use Rattle.erm_node.specs.Sound.{sound_law}
use Rattle.erm_world.specs.World.{history_of}
use Rattle.erm_maps.proofs.Histories.{history_below_end}
use Rattle.erm_maps.proofs.Lawful.{begins_above}
use Rattle.erm_maps.proofs.Standing.{runs_as_operations, snapshot_replies, stands_below}
use Rattle.erm_maps.proofs.histories_run_as_operations.Goals as goal

pub returns-clause-serial : goal.returns-clause-serial
returns-clause-serial c = λ v told order holds runs serial.
    let bounded : IsSerialOrder rank_of (below (v.tail + 1) (history_of v)) order =
    subst (λ h. IsSerialOrder rank_of h order) (sym (history_below_end sound_law v holds)) serial
    in
    runs_as_operations v told holds runs (v.tail + 1) order serial
    (record {
      serial = bounded;
      run = c.rows_run_serially.ensures.run_below (history_of v) v.opening.rows holds.snapshots holds.certified (v.tail + 1) order bounded;
      one_row =
          c.versions_are_unique.ensures.row (below (v.tail + 1) (history_of v)) v.opening.rows
          (c.prefixes_stand_alone.ensures.snapshot (history_of v) v.opening.rows holds.snapshots (v.tail + 1))
          (c.prefixes_stand_alone.ensures.certified (history_of v) holds.certified (v.tail + 1));
    })

pub returns-clause-states : goal.returns-clause-states
returns-clause-states c = λ v told bound order holds runs serial.
    stands_below v told holds runs bound order
    (record {
      serial = serial;
      run = c.rows_run_serially.ensures.run_below (history_of v) v.opening.rows holds.snapshots holds.certified bound order serial;
      one_row =
          c.versions_are_unique.ensures.row (below bound (history_of v)) v.opening.rows
          (c.prefixes_stand_alone.ensures.snapshot (history_of v) v.opening.rows holds.snapshots bound)
          (c.prefixes_stand_alone.ensures.certified (history_of v) holds.certified bound);
    })

pub returns-clause-snapshots : goal.returns-clause-snapshots
returns-clause-snapshots c = λ v told holds runs seat w session has.
    let certified = c.prefixes_stand_alone.ensures.certified (history_of v) holds.certified w.begin in
    let found = c.serial_order_is_unique.ensures.exists (below w.begin (history_of v)) certified in
    snapshot_replies v told holds runs seat w session has found.0
    (record {
      serial = found.1;
      run = c.rows_run_serially.ensures.run_below (history_of v) v.opening.rows holds.snapshots holds.certified w.begin found.0 found.1;
      one_row =
          c.versions_are_unique.ensures.row (below w.begin (history_of v)) v.opening.rows
          (c.prefixes_stand_alone.ensures.snapshot (history_of v) v.opening.rows holds.snapshots w.begin) certified;
    })
    (record {
      newest = c.rows_run_serially.ensures.newest_below (history_of v) v.opening.rows holds.snapshots holds.certified w.begin found.0 found.1 (begins_above sound_law v holds seat w session has);
      one = λ oid stamp other_stamp row other first second.
          (c.versions_are_unique.ensures.newest (history_of v) v.opening.rows holds.snapshots holds.certified oid w.begin stamp other_stamp row other first second).1;
    })
