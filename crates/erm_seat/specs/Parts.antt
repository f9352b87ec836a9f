-- What a kept seat is, as the definitions have it.
use Rattle.std.specs.Prelude.{map}
use Rattle.erm_machine.specs.declared.part.Part.{Part}
use Rattle.erm_kept.specs.Attempts.{attempt_of}
use Rattle.erm_seat.specs.declared.seat.SeatState.{SeatState}

-- what one seat alone changes
abbrev pub part_of : SeatState → Part
part_of x = record {
  place = x.place;
  task = x.task;
  number = x.number;
  current = attempt_of x.current;
  over = map attempt_of x.over.items;
  seen = x.seen;
  clear = x.clear;
  spare = x.spare.items;
  run = x.run;
  flushing = x.flushing;
  gathered_to = x.gathered_to;
  back = x.back;
}
