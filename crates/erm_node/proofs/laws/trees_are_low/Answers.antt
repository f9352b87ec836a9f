use Rattle.erm_node.proofs.Depth.{IsTree-low, levels_of-tree}
use Rattle.erm_node.proofs.laws.trees_are_low.Goals as goal

pub returns-clause-low : goal.returns-clause-low
returns-clause-low c = IsTree-low

pub returns-clause-found : goal.returns-clause-found
returns-clause-found c = levels_of-tree
