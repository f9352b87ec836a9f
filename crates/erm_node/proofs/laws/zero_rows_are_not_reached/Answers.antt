use Rattle.erm_node.proofs.Zeros.{reached-zeros}
use Rattle.erm_node.proofs.laws.zero_rows_are_not_reached.Goals as goal

pub returns : goal.returns
returns c = reached-zeros
