use Rattle.std.proofs.Common.{◌≡◌, ◌-◌, ◌++◌, take, replicate}
use Rattle.erm_node.specs.Node.{keys_of}
use Rattle.erm_node.proofs.node.keys.Given as goal

-- the keys so far, and zeros
abbrev pub invariant-loop-i : goal.invariant-loop-i
invariant-loop-i l = l.keys ≡ keys_of (take l.i l.pairs) ++ replicate (7 - l.i) 0
