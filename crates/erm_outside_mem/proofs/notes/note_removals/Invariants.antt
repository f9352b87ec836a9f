use Rattle.std.proofs.Common.{◌≤◌}
use Rattle.std.specs.Prelude.{vec_capacity}
use Rattle.erm_outside_mem.proofs.NotedWaits.{WaitsNoted}
use Rattle.erm_outside_mem.proofs.notes.note_removals.Given as goal

-- of the files that the notes so far say were removed none was removed last any more
abbrev pub invariant-loop-at : goal.invariant-loop-at
invariant-loop-at l = record {
  noted : WaitsNoted l.fn.done.items l.done.items l.at;
  room : vec_capacity l.fn.done ≤ vec_capacity l.done;
}
