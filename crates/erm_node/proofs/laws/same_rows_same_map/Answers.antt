use Rattle.erm_node.proofs.Alike.{map_of_rows-alike}
use Rattle.erm_node.proofs.laws.same_rows_same_map.Goals as goal

pub returns : goal.returns
returns c = map_of_rows-alike
