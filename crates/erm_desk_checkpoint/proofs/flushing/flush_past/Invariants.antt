use Rattle.std.proofs.Common.{◌≤◌, ◌-◌}
use Rattle.erm_ckpt.specs.declared.slot.Slots.{Slots}
use Rattle.erm_desk_checkpoint.specs.Kept.{sees_of}
use Rattle.erm_desk_checkpoint.specs.Turns.{FlushesOn, HoldsKnown, MayFlushPast}
use Rattle.erm_ring.specs.Turns.{MayGather}
use Rattle.erm_rule.specs.Books.{book}
use Rattle.erm_rule.specs.Steps.{Fits}
use Rattle.erm_rule.specs.Views.{view}
use Rattle.erm_world.specs.Log.{Log}
use Rattle.erm_desk_checkpoint.proofs.flushing.flush_past.Given as goal

-- the turns so far flushed, below the place
abbrev pub invariant-loop-end : goal.invariant-loop-end
invariant-loop-end g l = record {
  fits : Fits l.t.words.shared.table_id l.pass;
  may : MayGather (view l.pass);
  last : (m : Log) × (slots : Slots) × HoldsKnown g.L.RowLaw.law slots m (sees_of (book l.pass) (g.D.Disk.told l.disk) (g.D.Disk.faults l.disk) l.flusher) × MayFlushPast l.place m × (l.flushed ≤ m.flushed);
  goes : (k : Log) (slots : Slots) → HoldsKnown g.L.RowLaw.law slots k (sees_of (book l.fn.pass) (g.D.Disk.told l.fn.disk) (g.D.Disk.faults l.fn.disk) l.fn.flusher) → MayFlushPast l.place k
      → (m : Log) × FlushesOn g.L.RowLaw.law k m (sees_of (book l.fn.pass) (g.D.Disk.told l.fn.disk) (g.D.Disk.faults l.fn.disk) l.fn.flusher)
      (sees_of (book l.pass) (g.D.Disk.told l.disk) (g.D.Disk.faults l.disk) l.flusher)
      × HoldsKnown g.L.RowLaw.law slots m (sees_of (book l.pass) (g.D.Disk.told l.disk) (g.D.Disk.faults l.disk) l.flusher) × MayFlushPast l.place m;
}

abbrev pub decreases-loop-end : goal.decreases-loop-end
decreases-loop-end g l = l.place - l.flushed
