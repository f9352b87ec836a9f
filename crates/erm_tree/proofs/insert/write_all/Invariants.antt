use Rattle.std.proofs.Common.{ℕ, List, map, take}
use Rattle.erm_model.specs.RowTransaction.{did_write}
use Rattle.erm_tree.specs.Calls.{Ran}
use Rattle.erm_tree.proofs.insert.write_all.Given as goal

abbrev pub invariant-loop-oid : goal.invariant-loop-oid
invariant-loop-oid g l = Ran g.T.RowRead.face l.fn.txn (map (λ (entry : ℕ × List ℕ). did_write entry.0 entry.1) (take l.oid-index l.rows)) l.txn
