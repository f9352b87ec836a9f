use Rattle.std.proofs.Common.{◌≡◌, ◌-◌, sym, ap, ◌∙◌, arith}
use Rattle.erm_model.specs.Rows.{rows_of}
use Rattle.erm_model.specs.Database.{Database}
use Rattle.erm_node.specs.TreeMap.{values_below, with_values}
use Rattle.erm_node.proofs.Values.{map_of_rows-is, values_below-down}
use Rattle.erm_node.proofs.tree_map.map_of.Goals as goal

pub loop-table-init : goal.loop-table-init
loop-table-init c = map_of_rows-is (rows_of c.args.rows.now) ∙ ap (λ (m : Database). with_values (values_below (rows_of c.args.rows.now) 16) m) (sym c.new-map.ensures)

pub loop-table-preserved : goal.loop-table-preserved
loop-table-preserved c =
    values_below-down (rows_of c.args.rows.now) c.loop-table.table c.levels.result c.from-oid.result (c.loop-table.table - 1) c.loop-table.map c.add_tree.new.map (omega arith) c.loop-table.invariant (let e : c.loop-table.table - 1 ≡ c.loop-table.table - 1 = omega arith in e)
    c.from-oid.ensures c.levels.ensures c.in_ok-add_tree.ensures
