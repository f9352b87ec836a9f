use Rattle.std.proofs.Common.{◌≡◌}
use Rattle.std.specs.Prelude.{IfSome}
use Rattle.erm_outside.specs.Disk.{OnlyWaits, Tells}
use Rattle.erm_recover.specs.Waiting.{IsSettledIn}
use Rattle.erm_recover.proofs.waiting.sync_segments.Given as goal

-- those below `number` last
abbrev pub invariant-loop-number : goal.invariant-loop-number
invariant-loop-number g l = record {
  waits : Tells OnlyWaits (g.D.Disk.told l.fn.disk) (g.D.Disk.told l.disk);
  settled : IfSome (g.D.Disk.told l.disk) (IsSettledIn l.first l.number);
  sound : g.D.Disk.faults l.disk ≡ g.D.Disk.faults l.fn.disk;
}
