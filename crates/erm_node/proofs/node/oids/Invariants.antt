use Rattle.std.proofs.Common.{◌≡◌, ◌-◌, ◌++◌, take, replicate}
use Rattle.erm_node.specs.Node.{oids_of}
use Rattle.erm_node.proofs.node.oids.Given as goal

-- the objects so far, and zeros
abbrev pub invariant-loop-i : goal.invariant-loop-i
invariant-loop-i l = l.oids ≡ oids_of (take l.i l.pairs) ++ replicate (7 - l.i) 0
