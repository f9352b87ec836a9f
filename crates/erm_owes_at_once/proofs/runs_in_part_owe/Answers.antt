use Rattle.erm_owes_at_once.proofs.Whole.{PartLaws, owe_in_part}
use Rattle.erm_owes_at_once.proofs.runs_in_part_owe.Goals as goal

pub returns : goal.returns
returns c =
    let told = c.runs_in_part_are_told.ensures in
    let causes = c.runs_in_part_have_causes.ensures in
    let safe = c.runs_in_part_have_safe_snapshots.ensures in
    let logs = c.runs_in_part_tell_log.ensures in
    let laws : PartLaws = record {
      phases = told.phases;
      stamps = told.stamps;
      rise = told.rise;
      snapshots = told.snapshots;
      safe = safe.safe;
      causes = causes.causes;
      others = causes.others;
      logs = logs.log;
      saves = logs.saves;
      reach = logs.reach;
      room = c.runs_in_part_refuse_for_room.ensures.room;
    }
    in
    owe_in_part laws safe.serial
