use Rattle.erm_tree.proofs.Operations.{Stutters-cut_off, Stutters-look, Stutters-stopped}
use Rattle.erm_tree.proofs.laws.refused_calls_set_no_row.Goals as goal

pub returns-clause-get : goal.returns-clause-get
returns-clause-get g c table key = Stutters-look g.T.RowRead.face _ _ _

pub returns-clause-next : goal.returns-clause-next
returns-clause-next g c table from = Stutters-look g.T.RowRead.face _ _ _

pub returns-clause-find : goal.returns-clause-find
returns-clause-find g c table key = Stutters-look g.T.RowRead.face _ _ _

pub returns-clause-del : goal.returns-clause-del
returns-clause-del g c table key = Stutters-look g.T.RowRead.face _ _ _

pub returns-clause-put : goal.returns-clause-put
returns-clause-put g c table key value = Stutters-stopped g.T.RowRead.face _ _ _ (λ events kind. kind.none)

pub returns-clause-cut_off : goal.returns-clause-cut_off
returns-clause-cut_off g c s at t events none before goes refused after = Stutters-cut_off g.T.RowRead.face s at t events none before goes refused after
