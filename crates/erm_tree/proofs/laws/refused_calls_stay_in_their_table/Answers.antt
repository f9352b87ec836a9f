use Rattle.erm_tree.specs.Reads.{IsSought, IsOnWay}
use Rattle.erm_tree.specs.Walk.{IsMetByNext}
use Rattle.erm_model.specs.RowTransaction.{StopsRead}
use Rattle.erm_tree.proofs.Own.{look_stays, del_stays, put_stays}
use Rattle.erm_tree.proofs.laws.refused_calls_stay_in_their_table.Goals as goal

pub returns-clause-get : goal.returns-clause-get
returns-clause-get g c table key = look_stays g.T.RowRead.face StopsRead (IsSought table key) table (c.calls_stay_in_their_table.ensures.sought table key)

pub returns-clause-next : goal.returns-clause-next
returns-clause-next g c table from = look_stays g.T.RowRead.face StopsRead (IsMetByNext table from) table (c.calls_stay_in_their_table.ensures.next table from)

pub returns-clause-find : goal.returns-clause-find
returns-clause-find g c table key = look_stays g.T.RowRead.face StopsRead (IsOnWay table key) table (c.calls_stay_in_their_table.ensures.way table key)

pub returns-clause-del : goal.returns-clause-del
returns-clause-del g c table key = del_stays g.T.RowRead.face c.calls_stay_in_their_table.ensures.del_asks table key

pub returns-clause-put : goal.returns-clause-put
returns-clause-put g c = put_stays g.T.RowRead.face c.calls_stay_in_their_table.ensures.put c.calls_stay_in_their_table.ensures.put_asks
