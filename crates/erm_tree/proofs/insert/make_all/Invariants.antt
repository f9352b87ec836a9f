use Rattle.std.proofs.Common.{◌≡◌, ◌<◌, ℕ, length, map}
use Rattle.std.specs.List.{All}
use Rattle.erm_model.specs.declared.limits.TheConstants.{OID_LIMIT}
use Rattle.erm_model.specs.RowTransaction.{did_make}
use Rattle.erm_tree.specs.Calls.{Ran}
use Rattle.erm_tree.proofs.insert.make_all.Given as goal

abbrev pub invariant-loop-object : goal.invariant-loop-object
invariant-loop-object g l = Ran g.T.RowRead.face l.fn.txn (map did_make l.made.items) l.txn × (length l.made.items ≡ l._object) × All (λ (oid : ℕ). oid < OID_LIMIT) l.made.items
