use Rattle.erm_tree.proofs.Tables.{ChangesOne-put, ChangesOne-del, one_table}
use Rattle.erm_tree.proofs.laws.tables_stand_apart.Goals as goal

pub returns-clause-apart : goal.returns-clause-apart
returns-clause-apart c = (ChangesOne-put c.nodes_are_read_back.ensures.found, ChangesOne-del c.nodes_are_read_back.ensures.found)

pub returns-clause-one : goal.returns-clause-one
returns-clause-one c = one_table
