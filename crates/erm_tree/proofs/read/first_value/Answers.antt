use Rattle.std.proofs.Common.{◌-◌, ℕ, suc, List, Some, None, get_or, drop, add-one, sym, ◌∙◌, subst}
use Rattle.std.proofs.lemmas.Result.{err_from_is_err_and}
use Rattle.erm_model.specs.Rows.{Rows}
use Rattle.erm_model.specs.RowTransaction.{StopsRead, IsStopped}
use Rattle.erm_node.specs.Tree.{first_key}
use Rattle.erm_tree.specs.Calls.{AsksReads, Reads, SawIn, IsTold}
use Rattle.erm_tree.specs.Walk.{IsFirstIn, IsLeafFor, IsMetByFirst, IsOfLeaf, bound_of}
use Rattle.erm_tree.proofs.Calls.{IsStopped-read}
use Rattle.erm_tree.proofs.Nexts.{HasNoneUpTo, Along-start, Along-bounded, Along-read_at, Along-wide, Along-below, Along-none, Along-some, Along-end}
use Rattle.erm_tree.proofs.read.first_value.Goals as goal
use Rattle.erm_tree.proofs.read.first_value.Goals.{then-pair-low+in_ok-row+in_default, else-pair-low}

pub loop-pair-init : goal.loop-pair-init
loop-pair-init g c =
    let t = g.met.T.RowRead in
    Along-start g.T.RowRead.face t.goes_on c.args.low c.as_slice-pairs.result.now (bound_of c.args.leaf.now.end) c.args.txn.now c.requires.ready (t.stands c.args.txn.now)

pub read-requires-clause-object : goal.read-requires-clause-object
read-requires-clause-object g c =
    let face = g.T.RowRead.face in
    let told = subst (λ (pairs : List (ℕ × ℕ)). IsTold face c.args.txn.now (λ (rows : Rows). (table : ℕ) × IsLeafFor rows table c.args.low pairs (bound_of c.args.leaf.now.end))) (sym c.as_slice-pairs.ensures.value) c.requires.leaf in
    Along-bounded face g.met.T.RowRead.goes_on c.args.low c.as_slice-pairs.result.now (bound_of c.args.leaf.now.end) c.args.txn.now c.loop-pair.txn c.loop-pair.pair-index c.loop-pair-test.true c.loop-pair.invariant c.requires.ready.lawful told

pub returns-in_err-row-clause-err : goal.returns-in_err-row-clause-err
returns-in_err-row-clause-err g c =
    let t = g.met.T.RowRead in
    let face = g.T.RowRead.face in
    let to = bound_of c.args.leaf.now.end in
    let pairs = c.as_slice-pairs.result.now in
    let p = err_from_is_err_and c.from_residual.result c.from_residual.ensures.1 in
    let seen = Along-wide face t.goes_on c.args.low pairs to c.args.txn.now c.loop-pair.txn c.loop-pair.pair-index c.loop-pair-test.true c.loop-pair.invariant in
    let read = Along-read_at c.args.low pairs to c.loop-pair.pair-index c.loop-pair-test.true c.if-pair-low.true in
    let stopped = IsStopped-read face t.goes_on (IsMetByFirst c.args.low pairs to) StopsRead c.args.txn.now c.loop-pair.txn c.read.new.self (get_or pairs c.loop-pair.pair-index (0, 0)).1 c.in_err-row.field-0.0 (HasNoneUpTo c.args.low pairs to c.loop-pair.pair-index) (λ array meets none. read array none) seen c.in_err-row.ensures.err in
    rw (p.1, p.2) (subst (λ (ps : List (ℕ × ℕ)). IsStopped face StopsRead (Reads face.law (IsMetByFirst c.args.low ps to)) (AsksReads (IsMetByFirst c.args.low ps to)) c.args.txn.now c.in_err-row.field-0.0 c.read.new.self) c.as_slice-pairs.ensures.value stopped)

pub returns-in-Some-clause-ok : goal.returns-in-Some-clause-ok
returns-in-Some-clause-ok g c =
    let face = g.T.RowRead.face in
    let to = bound_of c.args.leaf.now.end in
    let pairs = c.as_slice-pairs.result.now in
    let pair = get_or pairs c.loop-pair.pair-index (0, 0) in
    let some = Along-some face g.met.T.RowRead.goes_on c.args.low pairs to c.args.txn.now c.loop-pair.txn c.loop-pair.pair-index c.loop-pair-test.true c.loop-pair.invariant c.if-pair-low.true c.read.new.self c.in_ok-row.row c.in_ok-row.ensures.ok
    c.in-Some.value (sym c.in-Some.ensures.value) in
    subst (λ (ps : List (ℕ × ℕ)). SawIn face (λ (rows : Rows) (x : ℕ). IsOfLeaf rows c.args.low ps to pair.0 x) c.args.txn.now c.read.new.self (λ (rows : Rows). (table : ℕ) → IsLeafFor rows table c.args.low ps to → IsFirstIn rows table c.args.low to (Some (pair.0, c.in-Some.value))))
    c.as_slice-pairs.ensures.value some

pub loop-pair-preserved : goal.loop-pair-preserved
loop-pair-preserved g c =
    let face = g.T.RowRead.face in
    let t = g.met.T.RowRead in
    let low = c.args.low in
    let to = bound_of c.args.leaf.now.end in
    let pairs = c.as_slice-pairs.result.now in
    let i = c.loop-pair.pair-index in
    rw (add-one) (elim c.if-pair-low.branch as (λ _. SawIn face (λ (rows : Rows) (x : ℕ). IsOfLeaf rows low pairs to (first_key (drop (suc i) pairs) to - 1) x) c.args.txn.now c.if-pair-low.txn (HasNoneUpTo low pairs to (suc i))) [
      | then-pair-low+in_ok-row+in_default w ↦
          rw w.txn-is (Along-none face t.goes_on low pairs to c.args.txn.now c.loop-pair.txn i c.loop-pair-test.true c.loop-pair.invariant w.if-pair-low.true w.read.new.self w.in_ok-row.row w.in_ok-row.ensures.ok (sym w.value_of.ensures.value ∙ w.in_default.is))
      | else-pair-low w ↦
          rw w.txn-is (Along-below face t.goes_on low pairs to c.args.txn.now c.loop-pair.txn i c.loop-pair-test.true c.loop-pair.invariant w.if-pair-low.false)
    ])

pub returns-clause-ok : goal.returns-clause-ok
returns-clause-ok g c =
    let face = g.T.RowRead.face in
    let to = bound_of c.args.leaf.now.end in
    let end = Along-end face g.met.T.RowRead.goes_on c.args.low c.as_slice-pairs.result.now to c.args.txn.now c.loop-pair.txn c.loop-pair.pair-index c.loop-pair-test.false c.loop-pair.invariant in
    subst (λ (ps : List (ℕ × ℕ)). SawIn face (λ (rows : Rows) (x : ℕ). IsOfLeaf rows c.args.low ps to (to - 1) x) c.args.txn.now c.loop-pair.txn (λ (rows : Rows). (table : ℕ) → IsLeafFor rows table c.args.low ps to → IsFirstIn rows table c.args.low to None))
    c.as_slice-pairs.ensures.value end
