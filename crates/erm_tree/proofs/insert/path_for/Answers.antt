use Rattle.std.proofs.Common.{◌≡◌, ◌-◌, ◌<◌, ℕ, suc, Bool, true, false, List, [], ◌∷◌, ◌++◌, length, Option, Some, None, get_or, add-one, refl, sym, ap, ◌∙◌, subst, inl, arith}
use Rattle.std.specs.Prelude.{nat_eq}
use Rattle.std.specs.Map.{lookup}
use Rattle.std.proofs.lemmas.List.{map-append}
use Rattle.std.proofs.lemmas.Result.{err_from_is_err_and}
use Rattle.erm_model.specs.Rows.{Rows}
use Rattle.erm_model.specs.RowTransaction.{StopsRead}
use Rattle.erm_node.specs.NodeShape.{shape_of}
use Rattle.erm_tree.specs.declared.plan.Step.{Step}
use Rattle.erm_tree.specs.Calls.{SawIn}
use Rattle.erm_tree.specs.Insert.{IsPathFor, Place}
use Rattle.erm_tree.specs.Reads.{IsOnWay}
use Rattle.erm_tree.specs.Step.{place_of, places_of}
use Rattle.erm_tree.specs.Walk.{rank}
use Rattle.erm_tree.proofs.Calls.{IsStopped-read}
use Rattle.erm_tree.proofs.Paths.{IsOnPath, Path-start, Path-bounded, Path-read, Path-record, Path-node, Path-leaf, Path-end, Path-inner, Path-down}
use Rattle.erm_tree.proofs.Walking.{Walking-object}
use Rattle.erm_tree.proofs.insert.path_for.Goals as goal

none_is_some : {X : Type 0} {x : X} → let none : Option X = None in none ≡ Some x → ⊥
none_is_some e = cc

pub loop-level-init : goal.loop-level-init
loop-level-init g c =
    let t = g.met.T.RowRead in
    let start = Path-start g.T.RowRead.face g.met.T.RowRead.goes_on c.requires.law c.args.table c.args.key c.args.txn.now c.requires.ready (t.stands c.args.txn.now) c.requires.table c.ranges.key.fits in
    let at_root = subst (λ (oid : ℕ). SawIn g.T.RowRead.face (IsOnWay c.args.table c.args.key) c.args.txn.now c.args.txn.now (λ (rows : Rows). IsOnPath rows c.args.table c.args.key 0 oid [])) (sym c.from-oid.ensures) start in (
      subst (λ (steps : List Step). SawIn g.T.RowRead.face (IsOnWay c.args.table c.args.key) c.args.txn.now c.args.txn.now (λ (rows : Rows). IsOnPath rows c.args.table c.args.key 0 c.from-oid.result (places_of steps))) (sym c.new-steps.ensures) at_root,
      ap (λ (steps : List Step). length steps) c.new-steps.ensures,
    )

pub read-requires-clause-object : goal.read-requires-clause-object
read-requires-clause-object g c =
    Path-bounded g.T.RowRead.face g.met.T.RowRead.goes_on c.requires.law c.args.table c.args.key c.args.txn.now c.loop-level.txn c.loop-level._level c.loop-level.oid (places_of c.loop-level.steps.items) c.requires.ready.lawful c.loop-level.invariant.0

pub returns-in_err-row-clause-err : goal.returns-in_err-row-clause-err
returns-in_err-row-clause-err g c =
    let t = g.met.T.RowRead in
    let p = err_from_is_err_and c.from_residual.result c.from_residual.ensures.1 in
    rw (p.1, p.2) (IsStopped-read g.T.RowRead.face t.goes_on (IsOnWay c.args.table c.args.key) StopsRead c.args.txn.now c.loop-level.txn c.read.new.self c.loop-level.oid c.in_err-row.field-0.0
    (λ (rows : Rows). IsOnPath rows c.args.table c.args.key c.loop-level._level c.loop-level.oid (places_of c.loop-level.steps.items))
    (λ array meets is. is.at.met false c.args.key c.args.key c.loop-level.oid (is.at.high, is.at.low, inl refl)) c.loop-level.invariant.0 c.in_err-row.ensures.err)

pub unreachable-requires : goal.unreachable-requires
unreachable-requires g c =
    let seen = Path-read g.T.RowRead.face g.met.T.RowRead.goes_on c.requires.law c.args.table c.args.key c.args.txn.now c.loop-level.txn c.read.new.self c.loop-level._level c.loop-level.oid c.in_ok-row.row (places_of c.loop-level.steps.items) c.loop-level.invariant.0 c.in_ok-row.ensures.ok in
    let node = Path-node g.T.RowRead.face g.met.T.RowRead.goes_on c.requires.law c.args.table c.args.key c.args.txn.now c.read.new.self c.loop-level._level c.loop-level.oid c.in_ok-row.row (places_of c.loop-level.steps.items) c.requires.ready.lawful seen in
    absurd (none_is_some (c.in_default.ensures ∙ node.1))

pub returns-then-node-clause-ok : goal.returns-then-node-clause-ok
returns-then-node-clause-ok g c =
    let seen = Path-read g.T.RowRead.face g.met.T.RowRead.goes_on c.requires.law c.args.table c.args.key c.args.txn.now c.loop-level.txn c.read.new.self c.loop-level._level c.loop-level.oid c.in_ok-row.row (places_of c.loop-level.steps.items) c.loop-level.invariant.0 c.in_ok-row.ensures.ok in
    let leaf = Path-leaf g.T.RowRead.face g.met.T.RowRead.goes_on c.requires.law c.args.table c.args.key c.args.txn.now c.read.new.self c.loop-level._level c.loop-level.oid c.in_ok-row.row (places_of c.loop-level.steps.items) (shape_of c.in-Some.node) seen (sym c.in-Some.ensures) c.if-node.true in
    let step : Bool → Step = λ (b : Bool). record { oid = c.loop-level.oid; leaf = b; pairs = c.in-Some.node.pairs } in
    let pushed : places_of c.push.new.self.items ≡ (places_of c.loop-level.steps.items) ++ place_of (step c.in-Some.node.leaf) ∷ [] =
    ap places_of c.push.ensures.items ∙ map-append place_of c.loop-level.steps.items (step true ∷ []) ∙ ap (λ (b : Bool). (places_of c.loop-level.steps.items) ++ place_of (step b) ∷ []) (sym c.if-node.true) in
    let found = c.record_in-found.ensures ∙ ap (lookup (nat_eq c.args.key)) c.as_slice.ensures.value in
    subst (λ (ps : List Place). SawIn g.T.RowRead.face (IsOnWay c.args.table c.args.key) c.args.txn.now c.read.new.self (λ (rows : Rows). IsPathFor rows c.args.table c.args.key ps c.record_in-found.result)) (sym pushed)
    (subst (λ (o : Option ℕ). SawIn g.T.RowRead.face (IsOnWay c.args.table c.args.key) c.args.txn.now c.read.new.self (λ (rows : Rows). IsPathFor rows c.args.table c.args.key ((places_of c.loop-level.steps.items) ++ place_of (step c.in-Some.node.leaf) ∷ []) o)) (sym found) leaf)

pub returns-then-node-clause-object : goal.returns-then-node-clause-object
returns-then-node-clause-object g c =
    let face = g.T.RowRead.face in
    let t = g.met.T.RowRead in
    let seen = Path-record face t.goes_on c.requires.law c.args.table c.args.key c.args.txn.now c.read.new.self (places_of c.push.new.self.items) c.record_in-found.result (returns-then-node-clause-ok g c) in
    Walking-object face t.goes_on c.requires.law c.args.table c.args.key c.args.txn.now c.read.new.self c.record_in-found.result c.requires.ready.lawful seen

pub child_for-child-requires : goal.child_for-child-requires
child_for-child-requires g c =
    let seen = Path-read g.T.RowRead.face g.met.T.RowRead.goes_on c.requires.law c.args.table c.args.key c.args.txn.now c.loop-level.txn c.read.new.self c.loop-level._level c.loop-level.oid c.in_ok-row.row (places_of c.loop-level.steps.items) c.loop-level.invariant.0 c.in_ok-row.ensures.ok in
    let inner = Path-inner g.T.RowRead.face g.met.T.RowRead.goes_on c.requires.law c.args.table c.args.key c.nodes_are_read_back.ensures.found c.args.txn.now c.read.new.self c.loop-level._level c.loop-level.oid c.in_ok-row.row (places_of c.loop-level.steps.items) (shape_of c.in-Some.node) c.requires.ready.lawful seen (sym c.in-Some.ensures) c.if-node.false in
    subst (λ (pairs : List (ℕ × ℕ)). 0 < rank c.args.key pairs) (sym c.as_slice-in-loop-level.ensures.value) inner

pub loop-level-preserved : goal.loop-level-preserved
loop-level-preserved g c =
    let seen = Path-read g.T.RowRead.face g.met.T.RowRead.goes_on c.requires.law c.args.table c.args.key c.args.txn.now c.loop-level.txn c.read.new.self c.loop-level._level c.loop-level.oid c.in_ok-row.row (places_of c.loop-level.steps.items) c.loop-level.invariant.0 c.in_ok-row.ensures.ok in
    let pairs : c.as_slice-in-loop-level.result.now ≡ c.in-Some.node.pairs.items = c.as_slice-in-loop-level.ensures.value in
    let key = c.args.key in
    let child = c.child_for-child.ensures.oid ∙ ap (λ (ps : List (ℕ × ℕ)). (get_or ps (rank key ps - 1) (0, 0)).1) pairs in
    let down = Path-down g.T.RowRead.face g.met.T.RowRead.goes_on c.requires.law c.args.table c.args.key c.nodes_are_read_back.ensures.found c.args.txn.now c.read.new.self c.loop-level._level c.loop-level.oid c.in_ok-row.row (places_of c.loop-level.steps.items) (shape_of c.in-Some.node) c.child_for-child.result.oid seen (sym c.in-Some.ensures) c.if-node.false child in
    let step : Bool → Step = λ (b : Bool). record { oid = c.loop-level.oid; leaf = b; pairs = c.in-Some.node.pairs } in
    let pushed : places_of c.push-in-loop-level.new.self.items ≡ (places_of c.loop-level.steps.items) ++ place_of (step c.in-Some.node.leaf) ∷ [] =
    ap places_of c.push-in-loop-level.ensures.items ∙ map-append place_of c.loop-level.steps.items (step false ∷ []) ∙ ap (λ (b : Bool). (places_of c.loop-level.steps.items) ++ place_of (step b) ∷ []) (sym c.if-node.false) in (
      rw (add-one) (subst (λ (ps : List Place). SawIn g.T.RowRead.face (IsOnWay c.args.table c.args.key) c.args.txn.now c.read.new.self (λ (rows : Rows). IsOnPath rows c.args.table c.args.key (suc c.loop-level._level) c.child_for-child.result.oid ps)) (sym pushed) down),
      omega (arith, c.push-in-loop-level.ensures.len, c.loop-level.invariant.1),
    )

pub unreachable-requires-2 : goal.unreachable-requires-2
unreachable-requires-2 g c =
    let end = Path-end g.T.RowRead.face g.met.T.RowRead.goes_on c.requires.law c.args.table c.args.key c.args.txn.now c.loop-level.txn c.loop-level._level c.loop-level.oid (places_of c.loop-level.steps.items) c.requires.ready.lawful c.loop-level.invariant.0 in
    omega (arith, end, c.loop-level-test.false)
