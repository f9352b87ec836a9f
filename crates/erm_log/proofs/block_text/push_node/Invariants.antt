use Rattle.std.proofs.Common.{◌≡◌, ◌++◌, take}
use Rattle.std.specs.List.{flat_map}
use Rattle.erm_log.specs.Texts.{node_word, pair_text}
use Rattle.erm_log.proofs.block_text.push_node.Given as goal

-- the pairs so far are told
abbrev pub invariant-loop-pair : goal.invariant-loop-pair
invariant-loop-pair l = l.out.items ≡ l.fn.out.items ++ (node_word l.node.leaf ++ flat_map pair_text (take l.pair-index l.node.pairs.items))
