use Rattle.std.proofs.Common.{◌≡◌}
use Rattle.std.specs.BTreeMap.{get}
use Rattle.std.specs.Map.{count_at}
use Rattle.erm_outside.specs.contracts.disk.FileOrd.TheImpl as file_order
use Rattle.erm_outside.specs.Disk.{contents, IsSettled}
use Rattle.erm_outside_mem.specs.DiskNotes.{empty_disk}
use Rattle.erm_outside_mem.proofs.Plays.{Plays}
use Rattle.erm_outside_mem.proofs.crash.play.Given as goal

-- the notes so far were played, and nothing is pending
abbrev pub invariant-loop-note : goal.invariant-loop-note
invariant-loop-note l = record {
  plays : Plays l.pick l.done l.note-index (λ file. count_at (get file_order.ghosts.cmp l.left) file) (contents l.image.steps);
  settled : IsSettled l.image.steps;
  fresh : l.image ≡ record empty_disk { steps = l.image.steps; room = l.image.room };
}
