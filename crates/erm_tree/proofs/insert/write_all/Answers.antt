use Rattle.std.proofs.Common.{ℕ, List, map, take}
use Rattle.std.proofs.lemmas.Bool.{false≢true}
use Rattle.erm_model.specs.RowTransaction.{did_write}
use Rattle.erm_tree.proofs.Calls.{Runs-claims}
use Rattle.erm_tree.proofs.Phases.{Ran-row}
use Rattle.erm_tree.proofs.insert.write_all.Goals as goal

pub unreachable-requires : goal.unreachable-requires
unreachable-requires g c =
    let es = map (λ (entry : ℕ × List ℕ). did_write entry.0 entry.1) (take c.loop-oid.oid-index c.args.rows.now) in
    false≢true (c.in_default.ensures.claimed (Runs-claims g.T.RowRead.face g.met.T.RowRead.goes_on es c.args.txn.now c.loop-oid.txn c.loop-oid.invariant.goes_on.runs _ (c.requires.claimed c.loop-oid.oid-index _ c.loop-oid-test.true)))

pub loop-oid-preserved : goal.loop-oid-preserved
loop-oid-preserved g c =
    Ran-row g.T.RowRead.face g.met.T.RowRead.goes_on (λ (entry : ℕ × List ℕ). did_write entry.0 entry.1) c.args.rows.now c.loop-oid.oid-index _ c.args.txn.now c.loop-oid.txn c.write.new.self c.loop-oid-test.true c.loop-oid.invariant c.in-Ok.ensures.ok
