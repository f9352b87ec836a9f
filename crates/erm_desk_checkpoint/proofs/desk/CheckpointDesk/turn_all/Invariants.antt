use Rattle.std.proofs.Common.{◌≡◌, ◌≤◌, ◌-◌, ◌^◌}
use Rattle.erm_desk.specs.All.{FlushTurns}
use Rattle.erm_desk.specs.Turns.{FlushSteps}
use Rattle.erm_desk.proofs.Chained.{IsLast}
use Rattle.erm_desk_checkpoint.proofs.Behind.{SoFar}
use Rattle.erm_desk_checkpoint.proofs.desk.CheckpointDesk.turn_all.Given as goal

-- the turns so far flushed, as far as the last one
abbrev pub invariant-loop-end : goal.invariant-loop-end
invariant-loop-end g l = record {
  turns : FlushTurns g.L.RowLaw.law g.B.Naming.start l.turns l.fn.self.desk l.self.desk;
  few : l.turns ≤ l.flushed;
  last : IsLast l.flushed l.self.desk;
  steps : FlushSteps g.L.RowLaw.law l.fn.self.desk.book l.self.desk.book;
  known : SoFar g.L.RowLaw.law g.B.Naming.start l.fn.self.slots l.fn.self.desk l.self.desk;
  same : l.self.desk.faults ≡ l.fn.self.desk.faults;
  slots : l.self.slots ≡ l.fn.self.slots;
}

abbrev pub decreases-loop-end : goal.decreases-loop-end
decreases-loop-end g l = 2 ^ 64 - l.flushed
