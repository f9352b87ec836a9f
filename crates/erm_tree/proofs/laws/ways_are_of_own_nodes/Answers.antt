use Rattle.erm_tree.proofs.Ways.{other_roots_off, records_off}
use Rattle.erm_tree.proofs.laws.ways_are_of_own_nodes.Goals as goal

pub returns-clause-roots : goal.returns-clause-roots
returns-clause-roots c = other_roots_off

pub returns-clause-records : goal.returns-clause-records
returns-clause-records c = records_off c.nodes_are_read_back.ensures.record
