use Rattle.erm_node.proofs.Shapes.{node_of-found, node_of-node_row, node_of-record}
use Rattle.erm_node.proofs.laws.nodes_are_read_back.Goals as goal

pub returns-clause-found : goal.returns-clause-found
returns-clause-found c = node_of-found

pub returns-clause-given : goal.returns-clause-given
returns-clause-given c = node_of-node_row

pub returns-clause-record : goal.returns-clause-record
returns-clause-record c = node_of-record
