use Rattle.std.proofs.Common.{arith}
use Rattle.erm_limits_at_once.specs.Laws.{RefusesForRoomIn}
use Rattle.erm_lines_at_once.proofs.Parts.{in_part, whole_of}
use Rattle.erm_limits_at_once.proofs.runs_at_once_refuse_for_room.Goals as goal

pub returns : goal.returns
returns c = record {
  room = whole_of (λ opening whole part answers told. RefusesForRoomIn opening whole part answers told) c.runs_in_part_refuse_for_room.ensures.room;
  cells = λ v f script answers closed run.
      let each = run.each in c.runs_in_part_refuse_for_room.ensures.cells v f script script answers closed (in_part v f script answers closed run) (omega (arith, each));
}
