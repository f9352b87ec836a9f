use Rattle.std.proofs.Common.{◌≡◌, ◌-◌, ◌≤◌, max}
use Rattle.erm_outside.specs.Disk.{Tells}
use Rattle.erm_checkpoint.specs.Steps.{RemovesAll}
use Rattle.erm_checkpoint.proofs.removing.remove_segments.Given as goal

-- those below `from` are removed
abbrev pub invariant-loop-segment : goal.invariant-loop-segment
invariant-loop-segment g l = record {
  above : l.first ≤ l.from;
  most : l.from ≤ max l.first l.end;
  told : Tells (RemovesAll l.first l.from) (g.D.Disk.told l.fn.disk) (g.D.Disk.told l.disk);
  sound : g.D.Disk.faults l.disk ≡ g.D.Disk.faults l.fn.disk;
}

abbrev pub decreases-loop-segment : goal.decreases-loop-segment
decreases-loop-segment g l = l.end - l.from
