use Rattle.erm_model.specs.RowTransaction.{did_read, did_claim, did_make}
use Rattle.erm_tree.proofs.Operations.{Stutters-does, Stutters-ready, Stutters-saw}
use Rattle.erm_tree.proofs.laws.looks_and_claims_set_no_row.Goals as goal

pub returns-clause-find : goal.returns-clause-find
returns-clause-find g c table key oid s t seen = Stutters-saw g.T.RowRead.face s t _ seen.saw

pub returns-clause-read : goal.returns-clause-read
returns-clause-read g c oid row = Stutters-does g.T.RowRead.face (did_read oid row) tt

pub returns-clause-claim : goal.returns-clause-claim
returns-clause-claim g c oid = Stutters-does g.T.RowRead.face (did_claim oid) tt

pub returns-clause-fresh : goal.returns-clause-fresh
returns-clause-fresh g c oid = Stutters-does g.T.RowRead.face (did_make oid) tt

pub returns-clause-ready : goal.returns-clause-ready
returns-clause-ready g c s t ready same = Stutters-ready g.T.RowRead.face s t ready same
