use Rattle.erm_model.specs.History.{below}
use Rattle.erm_world.specs.World.{history_of}
use Rattle.erm_maps.proofs.Lawful.{lawful_below}
use Rattle.erm_maps.proofs.rows_stay_lawful.Goals as goal

pub returns : goal.returns
returns g c = λ v bound order holds serial.
    (lawful_below g.L.RowLaw.law v holds bound order
    (record {
      serial = serial;
      run = c.rows_run_serially.ensures.run_below (history_of v) v.opening.rows holds.snapshots holds.certified bound order serial;
      one_row =
          c.versions_are_unique.ensures.row (below bound (history_of v)) v.opening.rows
          (c.prefixes_stand_alone.ensures.snapshot (history_of v) v.opening.rows holds.snapshots bound)
          (c.prefixes_stand_alone.ensures.certified (history_of v) holds.certified bound);
    })).1
