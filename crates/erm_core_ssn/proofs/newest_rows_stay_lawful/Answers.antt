use Rattle.erm_model.specs.History.{below}
use Rattle.erm_core_ssn.proofs.Turns.{RunsBelow, newest_lawful}
use Rattle.erm_core_ssn.proofs.newest_rows_stay_lawful.Goals as goal

pub returns : goal.returns
returns g c h opening snapshot certified keeps bound rows positive holds =
    let certified_below = c.prefixes_stand_alone.ensures.certified h certified bound in
    let order = c.serial_order_is_unique.ensures.exists (below bound h) certified_below in
    let runs : RunsBelow h opening bound order.0 = record {
      serial = order.1;
      run = c.rows_run_serially.ensures.run_below h opening snapshot certified bound order.0 order.1;
      newest = c.rows_run_serially.ensures.newest_below h opening snapshot certified bound order.0 order.1 positive;
      one_row = c.versions_are_unique.ensures.row (below bound h) opening (c.prefixes_stand_alone.ensures.snapshot h opening snapshot bound) certified_below;
    } in
    newest_lawful g.L.RowLaw.law h opening snapshot certified keeps bound rows order.0 runs holds
