use Rattle.std.proofs.Common.{◌≡◌, ◌-◌, false, IfSome, IsTrue}
use Rattle.erm_outside.specs.Disk.{Tells}
use Rattle.erm_flush.specs.Turns.{GoesOn, IsReady}
use Rattle.erm_flush.proofs.Progress.{Progress}
use Rattle.erm_flush.proofs.flusher.Flusher.flush_all.Given as goal

-- the turns so far wrote and waited
abbrev pub invariant-loop-stop : goal.invariant-loop-stop
invariant-loop-stop g l = record {
  stands : g.W.LogWorld.log_stands l.world;
  keeps : g.W.LogWorld.keeps l.fn.world l.world;
  goes_on : GoesOn (g.W.LogWorld.log l.fn.world) (g.W.LogWorld.log l.world);
  same : l.self ≡ l.fn.self;
  faults : g.D.Disk.faults l.disk ≡ g.D.Disk.faults l.fn.disk;
  ready : l.self ≡ false → IfSome (g.D.Disk.told l.disk) (IsReady (g.W.LogWorld.log l.world));
  still : IsTrue l.self → (g.W.LogWorld.log l.world ≡ g.W.LogWorld.log l.fn.world) × (g.D.Disk.told l.disk ≡ g.D.Disk.told l.fn.disk);
  told : l.self ≡ false → Tells (Progress g.W.LogWorld.rows_law.meets (g.W.LogWorld.log l.fn.world).flushed (g.W.LogWorld.log l.world)) (g.D.Disk.told l.fn.disk) (g.D.Disk.told l.disk);
}

abbrev pub decreases-loop-stop : goal.decreases-loop-stop
decreases-loop-stop g l = (g.W.LogWorld.log l.world).tail - (g.W.LogWorld.log l.world).flushed
