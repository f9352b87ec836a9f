use Rattle.std.proofs.Common.{ℕ, List, Option, refl, ap, subst, arith}
use Rattle.std.proofs.lemmas.Result.{err_from_is_err_and}
use Rattle.erm_model.specs.Rows.{Rows}
use Rattle.erm_model.specs.RowTransaction.{StopsRead}
use Rattle.erm_tree.specs.Calls.{SawIn}
use Rattle.erm_tree.specs.Reads.{IsOnWay}
use Rattle.erm_tree.specs.Walk.{IsFirstIn, IsLeafFor, IsOfLeaf, bound_of, last_sought}
use Rattle.erm_tree.proofs.Calls.{SawIn-ready, SawIn-told}
use Rattle.erm_tree.proofs.Nexts.{Seeks-ready, Seeks-start, Seeks-found, Seeks-none, Seeks-on, Seeks-leaf_stopped, Seeks-along_stopped}
use Rattle.erm_tree.proofs.read.next.Goals as goal

pub loop-leaf-init : goal.loop-leaf-init
loop-leaf-init g c =
    let t = g.met.T.RowRead in
    Seeks-start g.T.RowRead.face t.goes_on c.requires.law c.args.table c.args.from c.requires.table c.map_has_values_of_records.ensures.value c.args.txn.now c.ranges.from.fits c.requires.ready (t.stands c.args.txn.now)

pub leaf_for-requires-clause-ready : goal.leaf_for-requires-clause-ready
leaf_for-requires-clause-ready g c =
    Seeks-ready g.T.RowRead.face g.met.T.RowRead.goes_on c.requires.law c.args.table c.args.from c.requires.table c.map_has_values_of_records.ensures.value c.args.txn.now c.loop-leaf.txn c.loop-leaf.low c.requires.ready.lawful c.loop-leaf.invariant

pub returns-in_err-leaf-clause-err : goal.returns-in_err-leaf-clause-err
returns-in_err-leaf-clause-err g c =
    let t = g.met.T.RowRead in
    let p = err_from_is_err_and c.from_residual.result c.from_residual.ensures.1 in
    rw (p.1, p.2) (Seeks-leaf_stopped g.T.RowRead.face t.goes_on c.requires.law c.args.table c.args.from c.requires.table c.map_has_values_of_records.ensures.value StopsRead c.args.txn.now c.loop-leaf.txn c.leaf_for.new.txn c.loop-leaf.low c.in_err-leaf.field-0.0 c.loop-leaf.invariant c.in_err-leaf.ensures.err)

pub first_value-requires-clause-ready : goal.first_value-requires-clause-ready
first_value-requires-clause-ready g c =
    let ready = Seeks-ready g.T.RowRead.face g.met.T.RowRead.goes_on c.requires.law c.args.table c.args.from c.requires.table c.map_has_values_of_records.ensures.value c.args.txn.now c.loop-leaf.txn c.loop-leaf.low c.requires.ready.lawful c.loop-leaf.invariant in
    SawIn-ready g.T.RowRead.face g.met.T.RowRead.goes_on (IsOnWay c.args.table c.loop-leaf.low) c.loop-leaf.txn c.leaf_for.new.txn (λ (rows : Rows). IsLeafFor rows c.args.table c.loop-leaf.low c.in_ok-leaf.leaf.pairs.items (bound_of c.in_ok-leaf.leaf.end)) ready.lawful c.in_ok-leaf.ensures.ok

pub first_value-requires-clause-leaf : goal.first_value-requires-clause-leaf
first_value-requires-clause-leaf g c begun meets fits =
    let ready = Seeks-ready g.T.RowRead.face g.met.T.RowRead.goes_on c.requires.law c.args.table c.args.from c.requires.table c.map_has_values_of_records.ensures.value c.args.txn.now c.loop-leaf.txn c.loop-leaf.low c.requires.ready.lawful c.loop-leaf.invariant in
    (c.args.table, SawIn-told g.T.RowRead.face g.met.T.RowRead.goes_on (IsOnWay c.args.table c.loop-leaf.low) c.loop-leaf.txn c.leaf_for.new.txn (λ (rows : Rows). IsLeafFor rows c.args.table c.loop-leaf.low c.in_ok-leaf.leaf.pairs.items (bound_of c.in_ok-leaf.leaf.end)) ready.lawful c.in_ok-leaf.ensures.ok begun meets fits)

pub returns-in_err-found-clause-err : goal.returns-in_err-found-clause-err
returns-in_err-found-clause-err g c =
    let t = g.met.T.RowRead in
    let p = err_from_is_err_and c.from_residual-in_err-found.result c.from_residual-in_err-found.ensures.1 in
    rw (p.1, p.2) (Seeks-along_stopped g.T.RowRead.face t.goes_on c.requires.law c.args.table c.args.from c.requires.table c.map_has_values_of_records.ensures.value StopsRead c.args.txn.now c.loop-leaf.txn c.leaf_for.new.txn c.loop-leaf.low c.in_err-found.field-0.0 c.loop-leaf.invariant
    c.first_value.new.txn c.in_ok-leaf.leaf.pairs.items (bound_of c.in_ok-leaf.leaf.end) c.in_ok-leaf.ensures.ok c.in_err-found.ensures.err)

pub returns-in-Some-clause-ok : goal.returns-in-Some-clause-ok
returns-in-Some-clause-ok g c =
    let face = g.T.RowRead.face in
    let pairs = c.in_ok-leaf.leaf.pairs.items in
    let to = bound_of c.in_ok-leaf.leaf.end in
    let low = c.loop-leaf.low in
    let first = subst (λ (found : Option (ℕ × List ℕ)). SawIn face (λ (rows : Rows) (x : ℕ). IsOfLeaf rows low pairs to (last_sought to found) x) c.leaf_for.new.txn c.first_value.new.txn (λ (rows : Rows). (t : ℕ) → IsLeafFor rows t low pairs to → IsFirstIn rows t low to found)) c.in-Some.is c.in_ok-found.ensures.ok in
    Seeks-found face g.met.T.RowRead.goes_on c.requires.law c.args.table c.args.from c.requires.table c.map_has_values_of_records.ensures.value c.args.txn.now c.loop-leaf.txn c.leaf_for.new.txn low pairs to c.loop-leaf.invariant c.in_ok-leaf.ensures.ok c.first_value.new.txn c.in-Some.found first

pub returns-in_default-end-clause-ok : goal.returns-in_default-end-clause-ok
returns-in_default-end-clause-ok g c =
    let face = g.T.RowRead.face in
    let pairs = c.in_ok-leaf.leaf.pairs.items in
    let to = bound_of c.in_ok-leaf.leaf.end in
    let low = c.loop-leaf.low in
    let first = subst (λ (found : Option (ℕ × List ℕ)). SawIn face (λ (rows : Rows) (x : ℕ). IsOfLeaf rows low pairs to (last_sought to found) x) c.leaf_for.new.txn c.first_value.new.txn (λ (rows : Rows). (t : ℕ) → IsLeafFor rows t low pairs to → IsFirstIn rows t low to found)) c.in_default.is c.in_ok-found.ensures.ok in
    Seeks-none face g.met.T.RowRead.goes_on c.requires.law c.args.table c.args.from c.requires.table c.map_has_values_of_records.ensures.value c.args.txn.now c.loop-leaf.txn c.leaf_for.new.txn low pairs to c.loop-leaf.invariant c.in_ok-leaf.ensures.ok c.first_value.new.txn (ap bound_of c.in_default-end.is) first

pub loop-leaf-smaller : goal.loop-leaf-smaller
loop-leaf-smaller g c =
    let on = Seeks-on g.T.RowRead.face g.met.T.RowRead.goes_on c.requires.law c.args.table c.args.from c.requires.table c.map_has_values_of_records.ensures.value c.args.txn.now c.loop-leaf.txn c.leaf_for.new.txn c.loop-leaf.low c.in_ok-leaf.leaf.pairs.items (bound_of c.in_ok-leaf.leaf.end) c.loop-leaf.invariant c.in_ok-leaf.ensures.ok
    c.first_value.new.txn c.in_ok-found.field-0 c.in_ok-leaf.leaf.end c.in-Some-end.end c.requires.ready.lawful c.in_default.is c.in-Some-end.is refl c.in_ok-found.ensures.ok in
    let above = on.1 in
    let top = on.0.top in
    omega arith

pub loop-leaf-preserved : goal.loop-leaf-preserved
loop-leaf-preserved g c =
    let on = Seeks-on g.T.RowRead.face g.met.T.RowRead.goes_on c.requires.law c.args.table c.args.from c.requires.table c.map_has_values_of_records.ensures.value c.args.txn.now c.loop-leaf.txn c.leaf_for.new.txn c.loop-leaf.low c.in_ok-leaf.leaf.pairs.items (bound_of c.in_ok-leaf.leaf.end) c.loop-leaf.invariant c.in_ok-leaf.ensures.ok
    c.first_value.new.txn c.in_ok-found.field-0 c.in_ok-leaf.leaf.end c.in-Some-end.end c.requires.ready.lawful c.in_default.is c.in-Some-end.is refl c.in_ok-found.ensures.ok in
    on.0
