use Rattle.std.proofs.Common.{◌≡◌, true, take}
use Rattle.erm_node.specs.Node.{have_32_bits, shape_in}
use Rattle.erm_node.proofs.node.node_in.Given as goal

-- the pairs so far, whose objects have numbers of 32 bits
abbrev pub invariant-loop-i : goal.invariant-loop-i
invariant-loop-i l =
    record { pairs : l.pairs.items ≡ take l.i (shape_in l.row).pairs; narrow : have_32_bits (take l.i (shape_in l.row).pairs) ≡ true }
