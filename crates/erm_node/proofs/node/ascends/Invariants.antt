use Rattle.std.proofs.Common.{◌≡◌, ◌-◌, drop}
use Rattle.erm_node.specs.Node.{ascends}
use Rattle.erm_node.proofs.node.ascends.Given as goal

-- the rest decides
abbrev pub invariant-loop-i : goal.invariant-loop-i
invariant-loop-i l = ascends l.pairs ≡ ascends (drop (l.i - 1) l.pairs)
