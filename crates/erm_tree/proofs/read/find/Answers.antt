use Rattle.std.proofs.lemmas.Result.{IfOk-weaker}
use Rattle.erm_tree.proofs.Lookups.{SawIn-record}
use Rattle.erm_tree.proofs.read.find.Goals as goal

pub returns-clause-ok : goal.returns-clause-ok
returns-clause-ok g c =
    IfOk-weaker c.record_for.result _ _ (λ found seen. SawIn-record g.T.RowRead.face g.met.T.RowRead.goes_on c.requires.law c.args.table c.args.key c.args.txn.now c.record_for.new.txn found seen) c.record_for.ensures.ok
