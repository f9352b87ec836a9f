-- What a node of the program says.
use Rattle.erm_node.specs.declared.node.Node.{Node}
use Rattle.erm_node.specs.Node.{Shape}

-- whether it is a leaf, and its pairs
abbrev pub shape_of : Node → Shape
shape_of node = record { leaf = node.leaf; pairs = node.pairs.items }
