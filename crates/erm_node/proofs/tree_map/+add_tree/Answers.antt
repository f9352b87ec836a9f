use Rattle.std.proofs.Common.{◌≡◌, ◌-◌, ℕ, List, [], drop, length, sym, ap, ◌∙◌, arith}
use Rattle.std.proofs.Math.Seq.{drop-length}
use Rattle.std.proofs.lemmas.List.{get_or_past, get_or_read}
use Rattle.std.proofs.lemmas.Bool.{ltb-true}
use Rattle.erm_node.specs.Node.{node_of}
use Rattle.erm_model.specs.declared.key.Key.{Key}
use Rattle.erm_model.specs.Rows.{rows_of}
use Rattle.erm_node.specs.NodeShape.{shape_of}
use Rattle.erm_node.specs.TreeMap.{with_values}
use Rattle.erm_node.proofs.Values.{fan_values, fan_values-none, fan_values-down, tree_values-node, tree_values-no_node, tree_values-no_row}
use Rattle.erm_node.proofs.tree_map.+add_tree.Goals as goal

pub returns-in_default : goal.returns-in_default
returns-in_default t c =
    let tree = c.args.tree in
    sym (ap (λ (values : List (Key × List ℕ)). with_values values c.args.map.now) (tree_values-no_row (rows_of c.args.rows.now) tree.table tree.levels tree.oid tree.lo (get_or_past c.args.rows.now tree.oid [] c.in_default.ensures.lookup.3)))

pub returns-in_default-read_node : goal.returns-in_default-read_node
returns-in_default-read_node t c =
    let tree = c.args.tree in
    let row = get_or_read c.args.rows.now tree.oid c.in-Some.row.now (omega (arith, ltb-true tree.oid (length c.args.rows.now) (sym c.in-Some.ensures.lookup.0))) c.in-Some.ensures.lookup.1 [] in
    sym (ap (λ (values : List (Key × List ℕ)). with_values values c.args.map.now)
    (tree_values-no_node (rows_of c.args.rows.now) tree.table tree.levels tree.oid tree.lo (omega arith) (ap node_of (sym row) ∙ sym c.in_default-read_node.ensures)))

pub loop-i-init : goal.loop-i-init
loop-i-init t c =
    let rows = rows_of c.args.rows.now in
    let levels = c.args.tree.levels - 1 in
    sym (ap (λ (pairs : List (ℕ × ℕ)). with_values (fan_values rows c.args.tree.table levels pairs) c.args.map.now) (drop-length c.as_slice-pairs.result.now)
    ∙ ap (λ (values : List (Key × List ℕ)). with_values values c.args.map.now) (fan_values-none rows c.args.tree.table levels))

pub loop-i-preserved : goal.loop-i-preserved
loop-i-preserved t c =
    c.in_ok-add_tree.ensures
    ∙ fan_values-down (rows_of c.args.rows.now) c.args.tree.table (c.args.tree.levels - 1) c.as_slice-pairs.result.now c.loop-i.i c.args.map.now c.loop-i.map (omega arith) (omega arith) c.loop-i.invariant

pub returns : goal.returns
returns t c =
    let rows = rows_of c.args.rows.now in
    let tree = c.args.tree in
    let shape = shape_of c.in-Some-read_node.node in
    let row = get_or_read c.args.rows.now tree.oid c.in-Some.row.now (omega (arith, ltb-true tree.oid (length c.args.rows.now) (sym c.in-Some.ensures.lookup.0))) c.in-Some.ensures.lookup.1 [] in
    let all : c.loop-i.i ≡ 0 = omega arith in
    c.loop-i.invariant
    ∙ ap (λ (n : ℕ). with_values (fan_values rows tree.table (tree.levels - 1) (drop n c.as_slice-pairs.result.now)) c.args.map.now) all
    ∙ ap (λ (pairs : List (ℕ × ℕ)). with_values (fan_values rows tree.table (tree.levels - 1) pairs) c.args.map.now) c.as_slice-pairs.ensures.value
    ∙ ap (λ (values : List (Key × List ℕ)). with_values values c.args.map.now)
    (sym (tree_values-node rows tree.table tree.levels tree.oid tree.lo c.in-Some.row.now shape (omega arith) (sym row) (sym c.in-Some-read_node.ensures)))
