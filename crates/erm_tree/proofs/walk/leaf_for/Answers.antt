use Rattle.std.proofs.Common.{◌≡◌, ◌^◌, ◌<◌, ℕ, false, Option, Some, None, List, ◌-◌, get_or, drop, add-one, refl, sym, ap, ◌∙◌, subst, inl, arith}
use Rattle.std.proofs.lemmas.Result.{err_from_is_err_and}
use Rattle.erm_node.specs.NodeShape.{shape_of}
use Rattle.erm_node.specs.Tree.{first_key}
use Rattle.erm_model.specs.Rows.{Rows}
use Rattle.erm_model.specs.RowTransaction.{StopsRead}
use Rattle.erm_tree.specs.Calls.{SawIn}
use Rattle.erm_tree.specs.Reads.{IsOnWay}
use Rattle.erm_tree.specs.Walk.{bound_of, rank}
use Rattle.erm_tree.proofs.Standing.{StandsAt}
use Rattle.erm_tree.proofs.Calls.{IsStopped-read}
use Rattle.erm_tree.proofs.Walking.{Walking-start, Walking-bounded, Walking-read, Walking-node, Walking-leaf, Walking-end, Walking-inner, Walking-down}
use Rattle.erm_tree.proofs.walk.leaf_for.Goals as goal

none_is_some : {X : Type 0} {x : X} → let none : Option X = None in none ≡ Some x → ⊥
none_is_some e = cc

pub loop-level-init : goal.loop-level-init
loop-level-init g c =
    let t = g.met.T.RowRead in
    subst (λ (oid : ℕ). SawIn g.T.RowRead.face (IsOnWay c.args.table c.args.key) c.args.txn.now c.args.txn.now (λ (rows : Rows). StandsAt rows c.args.table c.args.key 0 oid (2 ^ 64)))
    (sym c.from-oid.ensures)
    (Walking-start g.T.RowRead.face t.goes_on c.requires.law c.args.table c.args.key c.args.txn.now c.requires.ready (t.stands c.args.txn.now) c.requires.table c.ranges.key.fits)

pub read-requires-clause-object : goal.read-requires-clause-object
read-requires-clause-object g c =
    Walking-bounded g.T.RowRead.face g.met.T.RowRead.goes_on c.requires.law c.args.table c.args.key c.args.txn.now c.loop-level.txn c.loop-level._level c.loop-level.oid (bound_of c.loop-level.end) c.requires.ready.lawful c.loop-level.invariant

pub returns-in_err-row-clause-err : goal.returns-in_err-row-clause-err
returns-in_err-row-clause-err g c =
    let t = g.met.T.RowRead in
    let face = g.T.RowRead.face in
    let p = err_from_is_err_and c.from_residual.result c.from_residual.ensures.1 in
    let stopped = IsStopped-read face t.goes_on (IsOnWay c.args.table c.args.key) StopsRead c.args.txn.now c.loop-level.txn c.read.new.self c.loop-level.oid c.in_err-row.field-0.0 (λ (rows : Rows). StandsAt rows c.args.table c.args.key c.loop-level._level c.loop-level.oid (bound_of c.loop-level.end))
    (λ array meets at. at.met false c.args.key c.args.key c.loop-level.oid (at.high, at.low, inl refl)) c.loop-level.invariant c.in_err-row.ensures.err in
    rw (p.1, p.2) stopped

pub unreachable-requires : goal.unreachable-requires
unreachable-requires g c =
    let seen = Walking-read g.T.RowRead.face g.met.T.RowRead.goes_on c.requires.law c.args.table c.args.key c.args.txn.now c.loop-level.txn c.read.new.self c.loop-level._level c.loop-level.oid (bound_of c.loop-level.end) c.in_ok-row.row c.loop-level.invariant c.in_ok-row.ensures.ok in
    let node = Walking-node g.T.RowRead.face g.met.T.RowRead.goes_on c.requires.law c.args.table c.args.key c.args.txn.now c.read.new.self c.loop-level._level c.loop-level.oid (bound_of c.loop-level.end) c.in_ok-row.row c.requires.ready.lawful seen in
    absurd (none_is_some (c.in_default.ensures ∙ node.1))

pub returns-then-node-clause-ok : goal.returns-then-node-clause-ok
returns-then-node-clause-ok g c =
    let seen = Walking-read g.T.RowRead.face g.met.T.RowRead.goes_on c.requires.law c.args.table c.args.key c.args.txn.now c.loop-level.txn c.read.new.self c.loop-level._level c.loop-level.oid (bound_of c.loop-level.end) c.in_ok-row.row c.loop-level.invariant c.in_ok-row.ensures.ok in
    Walking-leaf g.T.RowRead.face g.met.T.RowRead.goes_on c.requires.law c.args.table c.args.key c.args.txn.now c.read.new.self c.loop-level._level c.loop-level.oid (bound_of c.loop-level.end) c.in_ok-row.row (shape_of c.in-Some.node) seen (sym c.in-Some.ensures) c.if-node.true

pub child_for-child-requires : goal.child_for-child-requires
child_for-child-requires g c =
    let seen = Walking-read g.T.RowRead.face g.met.T.RowRead.goes_on c.requires.law c.args.table c.args.key c.args.txn.now c.loop-level.txn c.read.new.self c.loop-level._level c.loop-level.oid (bound_of c.loop-level.end) c.in_ok-row.row c.loop-level.invariant c.in_ok-row.ensures.ok in
    let inner = Walking-inner g.T.RowRead.face g.met.T.RowRead.goes_on c.requires.law c.args.table c.args.key c.nodes_are_read_back.ensures.found c.args.txn.now c.read.new.self c.loop-level._level c.loop-level.oid (bound_of c.loop-level.end) c.in_ok-row.row (shape_of c.in-Some.node) c.requires.ready.lawful seen (sym c.in-Some.ensures) c.if-node.false in
    subst (λ (pairs : List (ℕ × ℕ)). 0 < rank c.args.key pairs) (sym c.as_slice.ensures.value) inner

pub loop-level-preserved : goal.loop-level-preserved
loop-level-preserved g c =
    let seen = Walking-read g.T.RowRead.face g.met.T.RowRead.goes_on c.requires.law c.args.table c.args.key c.args.txn.now c.loop-level.txn c.read.new.self c.loop-level._level c.loop-level.oid (bound_of c.loop-level.end) c.in_ok-row.row c.loop-level.invariant c.in_ok-row.ensures.ok in
    let pairs : c.as_slice.result.now ≡ c.in-Some.node.pairs.items = c.as_slice.ensures.value in
    let key = c.args.key in
    let to = bound_of c.loop-level.end in
    rw (add-one) (Walking-down g.T.RowRead.face g.met.T.RowRead.goes_on c.requires.law c.args.table c.args.key c.nodes_are_read_back.ensures.found c.args.txn.now c.read.new.self c.loop-level._level c.loop-level.oid (bound_of c.loop-level.end) c.in_ok-row.row (shape_of c.in-Some.node)
    c.child_for-child.result.oid (bound_of c.child_for-child.result.end) seen (sym c.in-Some.ensures) c.if-node.false
    (c.child_for-child.ensures.oid ∙ ap (λ (ps : List (ℕ × ℕ)). (get_or ps (rank key ps - 1) (0, 0)).1) pairs)
    (c.child_for-child.ensures.end ∙ ap (λ (ps : List (ℕ × ℕ)). first_key (drop (rank key ps) ps) to) pairs))

pub unreachable-requires-2 : goal.unreachable-requires-2
unreachable-requires-2 g c =
    let end = Walking-end g.T.RowRead.face g.met.T.RowRead.goes_on c.requires.law c.args.table c.args.key c.args.txn.now c.loop-level.txn c.loop-level._level c.loop-level.oid (bound_of c.loop-level.end) c.requires.ready.lawful c.loop-level.invariant in
    omega (arith, end, c.loop-level-test.false)
