use Rattle.std.proofs.Common.{◌≡◌, ◌-◌, drop}
use Rattle.erm_model.specs.Rows.{rows_of}
use Rattle.erm_node.specs.TreeMap.{with_values}
use Rattle.erm_node.proofs.Values.{fan_values}
use Rattle.erm_node.proofs.tree_map.+add_tree.Given as goal

abbrev pub decreases-add_tree : goal.decreases-add_tree
decreases-add_tree l = l.tree.levels

-- the values from a pair on are there
abbrev pub invariant-loop-i : goal.invariant-loop-i
invariant-loop-i l = l.map ≡ with_values (fan_values (rows_of l.rows) l.tree.table (l.tree.levels - 1) (drop l.i l.pairs)) l.initial.map
