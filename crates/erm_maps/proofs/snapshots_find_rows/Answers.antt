use Rattle.erm_model.specs.History.{below, rows_after}
use Rattle.erm_world.specs.World.{history_of}
use Rattle.erm_maps.proofs.snapshots_find_rows.Goals as goal

pub returns-clause-rows : goal.returns-clause-rows
returns-clause-rows g c = λ v bound holds above.
    let certified = c.prefixes_stand_alone.ensures.certified (history_of v) holds.certified bound in
    let found = c.serial_order_is_unique.ensures.exists (below bound (history_of v)) certified in (
      rows_after found.0 v.opening.rows,
      c.rows_stay_lawful.ensures v bound found.0 holds found.1,
      c.rows_run_serially.ensures.newest_below (history_of v) v.opening.rows holds.snapshots holds.certified bound found.0 found.1 above,
    )

pub returns-clause-one : goal.returns-clause-one
returns-clause-one g c = λ v oid bound stamp other row other_row holds first second.
    (c.versions_are_unique.ensures.newest (history_of v) v.opening.rows holds.snapshots holds.certified oid bound stamp other row other_row first second).1
