use Rattle.std.proofs.Common.{ℕ}
use Rattle.erm_model.specs.declared.history.TransactionRecord.{TransactionRecord}
use Rattle.erm_core_ssn.specs.Laws.{AreSuccessorStamps}
use Rattle.erm_slow.proofs.Scans.{stamp_at, IsLeastSoFar}
use Rattle.erm_slow.proofs.+successor_stamp.Given as goal

abbrev pub decreases-successor_stamp : goal.decreases-successor_stamp
decreases-successor_stamp l = stamp_at l.history.now l.place

abbrev pub invariant-loop-other : goal.invariant-loop-other
invariant-loop-other l =
    (succ : TransactionRecord → ℕ) → AreSuccessorStamps l.history succ → IsLeastSoFar l.history succ l.t l.other l.least
