use Rattle.std.proofs.Common.{ℕ, List, map, take}
use Rattle.erm_model.specs.RowTransaction.{did_claim}
use Rattle.erm_tree.specs.Calls.{Ran}
use Rattle.erm_tree.proofs.insert.claim_all.Given as goal

abbrev pub invariant-loop-oid : goal.invariant-loop-oid
invariant-loop-oid g l = Ran g.T.RowRead.face l.fn.txn (map (λ (entry : ℕ × List ℕ). did_claim entry.0) (take l.oid-index l.rows)) l.txn
