use Rattle.std.proofs.Common.{◌≡◌, length, take}
use Rattle.erm_outside.specs.Disk.{Tells}
use Rattle.erm_lines.specs.Executions.{IsExecution, line_moves}
use Rattle.erm_lines.specs.Whole.{AreRunsNow}
use Rattle.erm_log_run.specs.Keeping.{IsHeld, KeepsOn, keeper_of}
use Rattle.erm_log_run.specs.Lines.{AreReceipts}
use Rattle.erm_log_run.specs.Saving.{AreRemoved, AreSaved, removed_to, saved_at}
use Rattle.erm_log_run.proofs.Told.{AreKept}
use Rattle.erm_log_run.proofs.answers.answer_all.Given as goal

-- the lines so far were answered, and the log is kept
abbrev pub invariant-loop-line : goal.invariant-loop-line
invariant-loop-line g l = record {
  stands : g.W.RowWorld.stands l.world;
  many : length l.answers.items ≡ l.line-index;
  runs : AreRunsNow (g.W.RowWorld.view l.world);
  opening : (g.W.RowWorld.view l.world).opening ≡ (g.W.RowWorld.view l.fn.world).opening;
  receipts : AreReceipts (g.W.RowWorld.view l.world) l.receipts;
  ran : IsExecution (g.W.RowWorld.view l.fn.world) (line_moves (take l.line-index l.script) l.answers.items) (g.W.RowWorld.view l.world);
  held : IsHeld g.W.LogWorld.rows_law.meets (keeper_of (g.W.LogWorld.log l.world) l.store (g.D.Disk.told l.store.disk));
  keeps : KeepsOn g.W.LogWorld.rows_law.meets (keeper_of (g.W.LogWorld.log l.fn.world) l.fn.store (g.D.Disk.told l.fn.store.disk)) (keeper_of (g.W.LogWorld.log l.world) l.store (g.D.Disk.told l.store.disk));
  told : AreKept g.W.LogWorld.rows_law.meets (g.D.Disk.told l.fn.store.disk) l.answers.items (keeper_of (g.W.LogWorld.log l.world) l.store (g.D.Disk.told l.store.disk));
  saves : AreSaved (saved_at l.answers.items) (g.D.Disk.told l.fn.store.disk) l.fn.store.slots l.store.slots;
  older : Tells (AreRemoved (removed_to l.fn.store.slots l.answers.items) (g.W.LogWorld.log l.fn.world).flushed (g.W.LogWorld.log l.world).flushed) (g.D.Disk.told l.fn.store.disk) (g.D.Disk.told l.store.disk);
  faults : g.D.Disk.faults l.store.disk ≡ g.D.Disk.faults l.fn.store.disk;
}
