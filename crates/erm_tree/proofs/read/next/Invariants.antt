use Rattle.std.proofs.Common.{◌-◌, ◌^◌}
use Rattle.erm_tree.proofs.Nexts.{Seeks}
use Rattle.erm_tree.proofs.read.next.Given as goal

abbrev pub invariant-loop-leaf : goal.invariant-loop-leaf
invariant-loop-leaf g l = Seeks g.T.RowRead.face l.fn.txn l.txn l.table l.from l.low

abbrev pub decreases-loop-leaf : goal.decreases-loop-leaf
decreases-loop-leaf g l = 2 ^ 64 - l.low
