use Rattle.std.proofs.Common.{◌-◌, ℕ, drop}
use Rattle.erm_model.specs.Rows.{Rows}
use Rattle.erm_node.specs.Tree.{first_key}
use Rattle.erm_tree.specs.Calls.{SawIn}
use Rattle.erm_tree.specs.Walk.{IsOfLeaf, bound_of}
use Rattle.erm_tree.proofs.Nexts.{HasNoneUpTo}
use Rattle.erm_tree.proofs.read.first_value.Given as goal

abbrev pub invariant-loop-pair : goal.invariant-loop-pair
invariant-loop-pair g l =
    SawIn g.T.RowRead.face (λ (rows : Rows) (x : ℕ). IsOfLeaf rows l.low l.pairs (bound_of l.leaf.end) (first_key (drop l.pair-index l.pairs) (bound_of l.leaf.end) - 1) x) l.fn.txn l.txn
    (HasNoneUpTo l.low l.pairs (bound_of l.leaf.end) l.pair-index)
