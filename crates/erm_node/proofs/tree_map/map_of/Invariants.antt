use Rattle.std.proofs.Common.{◌≡◌}
use Rattle.erm_model.specs.Rows.{rows_of}
use Rattle.erm_node.specs.TreeMap.{map_of_rows, values_below, with_values}
use Rattle.erm_node.proofs.tree_map.map_of.Given as goal

-- the values of the tables from a number on are there, and those below it are left
abbrev pub invariant-loop-table : goal.invariant-loop-table
invariant-loop-table l = map_of_rows (rows_of l.rows) ≡ with_values (values_below (rows_of l.rows) l.table) l.map
