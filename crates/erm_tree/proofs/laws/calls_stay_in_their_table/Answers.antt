use Rattle.erm_tree.proofs.Own.{way_reached, met_reached, next_reached, PutsClaimOwn-all, PutsAskOwn-all, DelsClaimOwn-all, DelsAskOwn-all}
use Rattle.erm_tree.proofs.laws.calls_stay_in_their_table.Goals as goal

pub returns-clause-way : goal.returns-clause-way
returns-clause-way c = way_reached

pub returns-clause-sought : goal.returns-clause-sought
returns-clause-sought c table key = met_reached table key key

pub returns-clause-met : goal.returns-clause-met
returns-clause-met c = met_reached

pub returns-clause-next : goal.returns-clause-next
returns-clause-next c = next_reached

pub returns-clause-put : goal.returns-clause-put
returns-clause-put c = PutsClaimOwn-all c.nodes_are_read_back.ensures.found

pub returns-clause-put_asks : goal.returns-clause-put_asks
returns-clause-put_asks c = PutsAskOwn-all c.nodes_are_read_back.ensures.found

pub returns-clause-del : goal.returns-clause-del
returns-clause-del c = DelsClaimOwn-all

pub returns-clause-del_asks : goal.returns-clause-del_asks
returns-clause-del_asks c = DelsAskOwn-all
