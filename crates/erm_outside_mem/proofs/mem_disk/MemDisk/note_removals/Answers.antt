use Rattle.std.proofs.Common.{sym, ap, ◌∙◌}
use Rattle.erm_outside.specs.Disk.{Image}
use Rattle.erm_outside.proofs.Waits.{reads_stay}
use Rattle.erm_outside_mem.specs.DiskNotes.{steps_of}
use Rattle.erm_outside_mem.proofs.mem_disk.MemDisk.note_removals.Goals as goal

pub invariant_of-self : goal.invariant_of-self
invariant_of-self c = record {
  same = λ file.
      c.self.invariant.same file
      ∙ ap (λ (image : Image). image file) (sym (reads_stay (steps_of c.self.inside.done.items) (steps_of c.note_removals.new.done.items) c.note_removals.ensures.waits));
  have = c.self.invariant.have;
}
