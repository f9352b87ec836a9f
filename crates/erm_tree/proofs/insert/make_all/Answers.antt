use Rattle.std.proofs.Common.{◌<◌, [], ◌∷◌, ℕ, List, map, sym, subst, arith}
use Rattle.std.specs.List.{All}
use Rattle.std.proofs.lemmas.List.Elements.{All-append, All-cons, All-nil}
use Rattle.std.proofs.lemmas.Result.{err_from_is_err_and}
use Rattle.erm_model.specs.declared.limits.TheConstants.{OID_LIMIT}
use Rattle.erm_model.specs.RowTransaction.{did_make, asked_make, StopsMake}
use Rattle.erm_tree.specs.Calls.{AreFirstMakes, AsksMake, Ran}
use Rattle.erm_tree.proofs.Calls.{IsStopped-ran}
use Rattle.erm_tree.proofs.Phases.{AreFirstMakes-next, AreFirstMakes-some, Ran-object}
use Rattle.erm_tree.proofs.insert.make_all.Goals as goal

pub returns-in_err-fresh-clause-err : goal.returns-in_err-fresh-clause-err
returns-in_err-fresh-clause-err g c =
    let t = g.met.T.RowRead in
    let p = err_from_is_err_and c.from_residual.result c.from_residual.ensures.1 in
    rw (p.1, p.2) (IsStopped-ran g.T.RowRead.face t.goes_on StopsMake (AreFirstMakes c.args.count) (AsksMake c.args.count) c.args.txn.now c.loop-object.txn c.fresh.new.self asked_make c.in_err-fresh.field-0.0 (map did_make c.loop-object.made.items) c.loop-object.invariant.0 (AreFirstMakes-some c.args.count c.loop-object.made.items (omega (arith, c.loop-object.invariant.1, c.loop-object-test.true))) (λ array. (0, AreFirstMakes-next c.args.count c.loop-object.made.items 0 (omega (arith, c.loop-object.invariant.1, c.loop-object-test.true)))) c.in_err-fresh.ensures.err)

pub loop-object-preserved : goal.loop-object-preserved
loop-object-preserved g c =
    let face = g.T.RowRead.face in
    let made = c.loop-object.made.items in
    let oid = c.in_ok-fresh.field-0 in
    let small : ℕ → Type 0 = λ (o : ℕ). o < OID_LIMIT in
    let ran = Ran-object face g.met.T.RowRead.goes_on made oid c.args.txn.now c.loop-object.txn c.fresh.new.self c.loop-object.invariant.0 c.in_ok-fresh.ensures.ok in
    let all = All-append small made (oid ∷ []) c.loop-object.invariant.2 (All-cons small oid [] c.in_ok-fresh.ensures.object (All-nil small)) in (
      subst (λ (os : List ℕ). Ran face c.args.txn.now (map did_make os) c.fresh.new.self) (sym c.push.ensures.items) ran,
      omega (arith, c.push.ensures.len, c.loop-object.invariant.1),
      subst (λ (os : List ℕ). All small os) (sym c.push.ensures.items) all,
    )
