use Rattle.std.proofs.Common.{◌≡◌, ◌+◌, ◌≤◌, length}
use Rattle.erm_outside.specs.Disk.{Tells}
use Rattle.erm_log_run.specs.Closing.{IsClosing, count_open}
use Rattle.erm_log_run.specs.Keeping.{IsHeld, KeepsOn, keeper_of}
use Rattle.erm_log_run.specs.Saving.{AreRemoved}
use Rattle.erm_log_run.proofs.closes.close_all.Given as goal

-- with each turn one session at least was closed, where one wasn't idle, and the log is kept
abbrev pub invariant-loop : goal.invariant-loop
invariant-loop g l = record {
  stands : g.W.RowWorld.stands l.world;
  many : length l.ends.items ≡ l.sessions;
  opening : (g.W.RowWorld.view l.world).opening ≡ (g.W.RowWorld.view l.fn.world).opening;
  closing : IsClosing (g.W.RowWorld.view l.fn.world) l.sessions l.ends.items (g.W.RowWorld.view l.world);
  counted : count_open l.sessions (g.W.RowWorld.view l.world).session + l.counter ≤ l.sessions;
  held : IsHeld g.W.LogWorld.rows_law.meets (keeper_of (g.W.LogWorld.log l.world) l.store (g.D.Disk.told l.store.disk));
  keeps : KeepsOn g.W.LogWorld.rows_law.meets (keeper_of (g.W.LogWorld.log l.fn.world) l.fn.store (g.D.Disk.told l.fn.store.disk)) (keeper_of (g.W.LogWorld.log l.world) l.store (g.D.Disk.told l.store.disk));
  slots : l.store.slots ≡ l.fn.store.slots;
  older : Tells (AreRemoved 0 (g.W.LogWorld.log l.fn.world).flushed (g.W.LogWorld.log l.world).flushed) (g.D.Disk.told l.fn.store.disk) (g.D.Disk.told l.store.disk);
  faults : g.D.Disk.faults l.store.disk ≡ g.D.Disk.faults l.fn.store.disk;
}
