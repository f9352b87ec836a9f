use Rattle.std.proofs.Common.{sym, ◌∙◌, arith}
use Rattle.std.proofs.lemmas.Bool.{false≢true}
use Rattle.erm_model.specs.Rows.{rows_of}
use Rattle.erm_node.specs.NodeShape.{shape_of}
use Rattle.erm_node.specs.Walk.{IsFreeFan, marked}
use Rattle.erm_node.proofs.Walks.{IsFreeFan-empty_range, IsFreeFan-tree, IsFreeFan-step, total-drop, told_no, told_on, HasForm-levels, IsFreeTree-node, marked-node}
use Rattle.erm_node.proofs.soundness.+walk.Goals as goal
use Rattle.erm_node.proofs.soundness.+walk.Goals.{is_fan-then-from-hi-via-then-from-hi, is_fan-then-from-hi-via-else-from-hi+then-not-is_tree}

pub is_fan-returns-then-from-hi-clause-free : goal.is_fan-returns-then-from-hi-clause-free
is_fan-returns-then-from-hi-clause-free t c =
    let rows = rows_of c.args.rows.now in
    let pairs = c.args.pairs.now in
    let d = c.args.levels in
    let i = c.loop-i.i in
    let here = c.loop-i.reached in
    let end = c.end_of-hi.result in
    told_no (IsFreeFan rows (marked c.args.reached.now) d pairs c.args.hi) (λ free.
    let rest = c.loop-i.invariant.rest.0 free in
    elim c.then-from-hi.branch as (λ _. ⊥) [
      | is_fan-then-from-hi-via-then-from-hi w ↦ IsFreeFan-empty_range rows d pairs c.args.hi i c.loop-i-test.true here end c.end_of-hi.ensures (omega (arith, w.if-from-hi.true, c.from.ensures)) rest
      | is_fan-then-from-hi-via-else-from-hi+then-not-is_tree w ↦
          false≢true (sym w.if-not-is_tree.true ∙ w.is_tree.ensures.free.1 (IsFreeFan-tree rows d pairs c.args.hi i c.loop-i-test.true here end c.end_of-hi.ensures rest))
    ])

pub is_fan-loop-i-preserved : goal.is_fan-loop-i-preserved
is_fan-loop-i-preserved t c =
    let rows = rows_of c.args.rows.now in
    let pairs = c.args.pairs.now in
    let d = c.args.levels in
    let i = c.loop-i.i in
    let end = c.end_of-hi.result in
    let marks = told_on c.is_tree.result _ c.if-not-is_tree.false c.is_tree.ensures.marks in
    record {
      rest = IsFreeFan-step rows d pairs c.args.hi i c.loop-i-test.true c.loop-i.reached end c.end_of-hi.ensures
          (IsFreeFan rows (marked c.args.reached.now) d pairs c.args.hi) c.is_tree.new.reached c.loop-i.invariant.rest
          (c.is_tree.ensures.free.0 c.if-not-is_tree.false) (omega (arith, c.if-from-hi.false, c.from.ensures)) marks;
      marks = λ x. omega (arith, c.loop-i.invariant.marks x, marks x, total-drop rows d pairs c.args.hi i c.loop-i-test.true x);
    }

pub is_tree-returns-then-has_form-clause-free : goal.is_tree-returns-then-has_form-clause-free
is_tree-returns-then-has_form-clause-free t c =
    let rows = rows_of c.args.rows.now in
    let part = c.args.part in
    let is_new = c.mark.ensures.new.0 c.if-not-mark.false in
    let marks = told_on c.mark.result _ c.if-not-mark.false c.mark.ensures.marks in
    let shape = shape_of c.in-Some.node in
    let form = c.has_form.ensures.0 c.if-has_form.true in
    IsFreeTree-node rows c.args.reached.now part.oid (omega arith) is_new part.least part.lo part.hi part.levels (omega arith) shape (sym c.in-Some.ensures)
    c.mark.new.reached marks c.as_slice.result.now c.as_slice.ensures.value
    (HasForm-levels rows c.args.reached.now part.oid (omega arith) is_new part.least part.lo part.hi part.levels (omega arith) shape (sym c.in-Some.ensures) form.0 form.1 form.2)
    c.is_fan.result c.is_fan.ensures.free

pub is_tree-returns-then-has_form-clause-marks : goal.is_tree-returns-then-has_form-clause-marks
is_tree-returns-then-has_form-clause-marks t c =
    let rows = rows_of c.args.rows.now in
    let part = c.args.part in
    let is_new = c.mark.ensures.new.0 c.if-not-mark.false in
    let marks = told_on c.mark.result _ c.if-not-mark.false c.mark.ensures.marks in
    marked-node rows c.args.reached.now part.oid (omega arith) is_new part.least part.lo part.hi part.levels (omega arith) (shape_of c.in-Some.node) (sym c.in-Some.ensures)
    c.mark.new.reached marks c.as_slice.result.now c.as_slice.ensures.value c.is_fan.result c.is_fan.new.reached c.is_fan.ensures.marks
