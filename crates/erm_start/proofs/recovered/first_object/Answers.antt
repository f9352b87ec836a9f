use Rattle.std.proofs.Common.{◌≡◌, ℕ, ◌+◌, sym, subst, arith}
use Rattle.erm_model.specs.declared.limits.TheConstants.{OID_LIMIT}
use Rattle.erm_model.specs.Rows.{rows_of}
use Rattle.erm_lines.specs.Executions.{is_zero}
use Rattle.erm_start.specs.Recovered.{IsFirstBelow}
use Rattle.erm_start.proofs.First.{is_unused, is_used, past_used, past_zeros, starts}
use Rattle.erm_start.proofs.recovered.first_object.Goals.{else-ne, then-ne}
use Rattle.erm_start.proofs.recovered.first_object.Goals as goal

pub loop-oid-init : goal.loop-oid-init
loop-oid-init c = (let from = c.from-oid.ensures in omega (arith, from), starts (rows_of c.args.rows.now) c.from-oid.result c.from-first.result c.from-oid.ensures c.from-first.ensures)

pub loop-oid-preserved : goal.loop-oid-preserved
loop-oid-preserved c =
    let least = c.loop-oid.invariant.0 in
    let zero_row = is_zero (rows_of c.args.rows.now c.loop-oid.oid) in (
      omega (arith, least),
      elim c.if-ne.branch as (λ _. IsFirstBelow (rows_of c.args.rows.now) (c.loop-oid.oid + 1) c.if-ne.first) [
        | then-ne w ↦
            subst (IsFirstBelow (rows_of c.args.rows.now) (c.loop-oid.oid + 1)) (sym w.first-is)
            (past_used (rows_of c.args.rows.now) c.loop-oid.oid least (is_used zero_row c.ne.result c.ne.ensures w.if-ne.true))
        | else-ne w ↦
            subst (IsFirstBelow (rows_of c.args.rows.now) (c.loop-oid.oid + 1)) (sym w.first-is)
            (past_zeros (rows_of c.args.rows.now) c.loop-oid.oid c.loop-oid.first c.loop-oid.invariant.1 (is_unused zero_row c.ne.result c.ne.ensures w.if-ne.false))
      ],
    )

pub returns : goal.returns
returns c =
    let from = c.from-oid.ensures in
    let last = c.loop-oid.auto.oid-end (omega (arith, from)) in
    let past = c.loop-oid-test.false in
    let all : c.loop-oid.oid ≡ OID_LIMIT = omega (arith, last, past) in
    subst (λ (n : ℕ). IsFirstBelow (rows_of c.args.rows.now) n c.loop-oid.first) all c.loop-oid.invariant.1
