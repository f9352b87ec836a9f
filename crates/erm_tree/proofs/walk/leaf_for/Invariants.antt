use Rattle.erm_model.specs.Rows.{Rows}
use Rattle.erm_tree.specs.Calls.{SawIn}
use Rattle.erm_tree.specs.Reads.{IsOnWay}
use Rattle.erm_tree.specs.Walk.{bound_of}
use Rattle.erm_tree.proofs.Standing.{StandsAt}
use Rattle.erm_tree.proofs.walk.leaf_for.Given as goal

abbrev pub invariant-loop-level : goal.invariant-loop-level
invariant-loop-level g l =
    SawIn g.T.RowRead.face (IsOnWay l.table l.key) l.fn.txn l.txn (λ (rows : Rows). StandsAt rows l.table l.key l._level l.oid (bound_of l.end))
