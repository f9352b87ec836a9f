use Rattle.std.proofs.Common.{ℕ, Option, sym, ap, ◌∙◌, subst}
use Rattle.std.specs.Prelude.{nat_eq}
use Rattle.std.specs.Map.{lookup}
use Rattle.erm_model.specs.Rows.{Rows}
use Rattle.erm_tree.specs.Calls.{SawIn}
use Rattle.erm_tree.specs.Reads.{IsOnWay}
use Rattle.erm_tree.specs.Walk.{IsRecordFor, bound_of}
use Rattle.erm_tree.proofs.Walking.{Walking-record, Walking-object}
use Rattle.erm_tree.proofs.walk.record_for.Goals as goal

pub returns-clause-ok : goal.returns-clause-ok
returns-clause-ok g c =
    let face = g.T.RowRead.face in
    let t = g.met.T.RowRead in
    let found = c.record_in.ensures ∙ ap (lookup (nat_eq c.args.key)) c.as_slice.ensures.value in
    subst (λ (r : Option ℕ). SawIn face (IsOnWay c.args.table c.args.key) c.args.txn.now c.leaf_for.new.txn (λ (rows : Rows). IsRecordFor rows c.args.table c.args.key r)) (sym found)
    (Walking-record face t.goes_on c.requires.law c.args.table c.args.key c.args.txn.now c.leaf_for.new.txn c.in_ok-leaf.leaf.pairs.items (bound_of c.in_ok-leaf.leaf.end) c.in_ok-leaf.ensures.ok)

pub returns-clause-object : goal.returns-clause-object
returns-clause-object g c =
    Walking-object g.T.RowRead.face g.met.T.RowRead.goes_on c.requires.law c.args.table c.args.key c.args.txn.now c.leaf_for.new.txn c.record_in.result c.requires.ready.lawful (returns-clause-ok g c)
