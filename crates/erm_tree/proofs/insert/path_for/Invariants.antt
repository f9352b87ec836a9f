use Rattle.std.proofs.Common.{◌≡◌, length}
use Rattle.erm_model.specs.Rows.{Rows}
use Rattle.erm_tree.specs.Calls.{SawIn}
use Rattle.erm_tree.specs.Reads.{IsOnWay}
use Rattle.erm_tree.specs.Step.{places_of}
use Rattle.erm_tree.proofs.Paths.{IsOnPath}
use Rattle.erm_tree.proofs.insert.path_for.Given as goal

abbrev pub invariant-loop-level : goal.invariant-loop-level
invariant-loop-level g l =
    SawIn g.T.RowRead.face (IsOnWay l.table l.key) l.fn.txn l.txn (λ (rows : Rows). IsOnPath rows l.table l.key l._level l.oid (places_of l.steps.items))
    × (length l.steps.items ≡ l._level)
