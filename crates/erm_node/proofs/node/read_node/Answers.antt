use Rattle.std.proofs.Common.{◌≡◌, ℕ, Bool, true, false, cond, Some, None, refl, sym, ap, ◌∙◌}
use Rattle.std.specs.Prelude.{option_map, nat_eq, List}
use Rattle.std.specs.Bool.{then_some}
use Rattle.erm_node.specs.declared.node.Node.{Node}
use Rattle.std.specs.Cmp.Lexicographic.{pointwise}
use Rattle.erm_node.specs.Node.{Shape, is_node, node_of, node_row, shape_in}
use Rattle.erm_node.specs.NodeShape.{shape_of}
use Rattle.erm_node.proofs.Shapes.{is_node-wide, node_of-no_node, node_of-tested}
use Rattle.erm_node.proofs.node.read_node.Goals as goal
use Rattle.erm_node.proofs.node.read_node.Goals.{then-is_node, else-is_node}

shaped : (b : Bool) (node : Node) → option_map shape_of (then_some b node) ≡ cond b (Some (shape_of node)) None
shaped true node = refl
shaped false node = refl

node_of-tested_true : (row : List ℕ) (shape : Shape) (same : Bool) → shape ≡ shape_in row → is_node shape ≡ true → same ≡ pointwise nat_eq (node_row shape) row → cond same (Some shape) None ≡ node_of row
node_of-tested_true row shape same e is told = node_of-tested row shape true same e (sym is) told

pub returns-in_err-node : goal.returns-in_err-node
returns-in_err-node c =
    let row = c.args.row.now in
    ap (option_map shape_of) c.from_residual.ensures ∙ sym (node_of-no_node row (is_node-wide (shape_in row) c.in_err-node.ensures))

pub returns : goal.returns
returns c =
    let row = c.args.row.now in
    let shape = shape_of c.in_ok-node.node in
    let told = c.in_ok-node.ensures in
    let is = c.is_node.ensures told.1 in
    ap (option_map shape_of) c.then_some.ensures ∙ shaped c.if-is_node.then_some c.in_ok-node.node
    ∙ elim c.if-is_node.branch as (λ _. cond c.if-is_node.then_some (Some shape) None ≡ node_of row) [
      | then-is_node w ↦
          node_of-tested_true row shape c.if-is_node.then_some told.0 (sym is ∙ w.if-is_node.true) (w.then_some-is ∙ w.eq.ensures ∙ ap (λ (r : List ℕ). pointwise nat_eq r row) w.row_of_node.ensures)
      | else-is_node w ↦
          ap (λ (b : Bool). cond b (Some shape) None) (w.then_some-is ∙ w.if-is_node.false) ∙ sym (node_of-no_node row (ap is_node (sym told.0) ∙ sym is ∙ w.if-is_node.false))
    ]
