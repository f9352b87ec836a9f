use Rattle.std.proofs.Common.{ℕ, List, [], map, take, get_or}
use Rattle.std.proofs.lemmas.Result.{err_from_is_err_and}
use Rattle.erm_model.specs.RowTransaction.{did_claim, asked_claim, StopsClaim}
use Rattle.erm_tree.specs.Calls.{AsksClaims, IsPrefixOf}
use Rattle.erm_tree.proofs.Calls.{IsStopped-ran}
use Rattle.erm_tree.proofs.Phases.{IsPrefixOf-next, IsPrefixOf-rows, Ran-row}
use Rattle.erm_tree.proofs.insert.claim_all.Goals as goal

pub returns-in_err-claim-clause-err : goal.returns-in_err-claim-clause-err
returns-in_err-claim-clause-err g c =
    let t = g.met.T.RowRead in
    let p = err_from_is_err_and c.from_residual.result c.from_residual.ensures.1 in
    let entry : ℕ × List ℕ = get_or c.args.rows.now c.loop-oid.oid-index (0, []) in
    let ws = take c.loop-oid.oid-index c.args.rows.now in
    rw (p.1, p.2) (IsStopped-ran g.T.RowRead.face t.goes_on StopsClaim (IsPrefixOf (map (λ (entry : ℕ × List ℕ). did_claim entry.0) c.args.rows.now)) (AsksClaims c.args.rows.now) c.args.txn.now c.loop-oid.txn c.claim.new.self (asked_claim entry.0) c.in_err-claim.field-0.0 (map (λ (entry : ℕ × List ℕ). did_claim entry.0) ws) c.loop-oid.invariant (IsPrefixOf-rows (λ (entry : ℕ × List ℕ). did_claim entry.0) c.args.rows.now c.loop-oid.oid-index)
    (λ array. IsPrefixOf-next (λ (entry : ℕ × List ℕ). did_claim entry.0) c.args.rows.now c.loop-oid.oid-index (0, []) c.loop-oid-test.true) c.in_err-claim.ensures.err)

pub loop-oid-preserved : goal.loop-oid-preserved
loop-oid-preserved g c =
    Ran-row g.T.RowRead.face g.met.T.RowRead.goes_on (λ (entry : ℕ × List ℕ). did_claim entry.0) c.args.rows.now c.loop-oid.oid-index _ c.args.txn.now c.loop-oid.txn c.claim.new.self c.loop-oid-test.true c.loop-oid.invariant c.in_ok-claim.ensures.ok
