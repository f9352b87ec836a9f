use Rattle.erm_model.specs.History.{below, rows_after}
use Rattle.erm_world.specs.Laws.{FitsWork}
use Rattle.erm_world.specs.World.{history_of}
use Rattle.erm_maps.proofs.Lawful.{LeavesNewest, RunsBelow, begins_above, fits_below}
use Rattle.erm_maps.proofs.works_are_possible.Goals as goal

pub returns : goal.returns
returns g c = λ v holds seat w session has.
    let certified = c.prefixes_stand_alone.ensures.certified (history_of v) holds.certified w.begin in
    let found = c.serial_order_is_unique.ensures.exists (below w.begin (history_of v)) certified in
    let runs : RunsBelow v w.begin found.0 = record {
      serial = found.1;
      run = c.rows_run_serially.ensures.run_below (history_of v) v.opening.rows holds.snapshots holds.certified w.begin found.0 found.1;
      one_row =
          c.versions_are_unique.ensures.row (below w.begin (history_of v)) v.opening.rows
          (c.prefixes_stand_alone.ensures.snapshot (history_of v) v.opening.rows holds.snapshots w.begin) certified;
    } in
    let leaves : LeavesNewest v w.begin found.0 = record {
      newest = c.rows_run_serially.ensures.newest_below (history_of v) v.opening.rows holds.snapshots holds.certified w.begin found.0 found.1 (begins_above g.L.RowLaw.law v holds seat w session has);
      one = λ oid stamp other_stamp row other first second.
          (c.versions_are_unique.ensures.newest (history_of v) v.opening.rows holds.snapshots holds.certified oid w.begin stamp other_stamp row other first second).1;
    } in
    let fit : FitsWork g.L.RowLaw.law w (rows_after found.0 v.opening.rows) = fits_below g.L.RowLaw.law v holds seat w session has found.0 runs leaves in
    (rows_after found.0 v.opening.rows, fit.meets, fit)
