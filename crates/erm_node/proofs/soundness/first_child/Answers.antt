use Rattle.std.proofs.Common.{◌≡◌, ◌==◌, ◌<◌, ℕ, List, Bool, Some, true, false, length, get_or, sym, ap, ◌∙◌, arith}
use Rattle.std.proofs.lemmas.Bool.Decides.{nat_tests}
use Rattle.erm_node.specs.Node.{child_of}
use Rattle.erm_node.specs.NodeShape.{shape_of}
use Rattle.erm_node.proofs.Levels.{first_child-no_node, first_child-node, child_of-leaf, child_of-empty, child_of-inner}
use Rattle.erm_node.proofs.soundness.first_child.Goals as goal
use Rattle.erm_node.proofs.soundness.first_child.Goals.{then-node-via-then-node, then-node-via-else-node+then-is_empty}

empty_if : (n : ℕ) → (n == 0) ≡ true → n ≡ 0
empty_if n is = grind (arith, nat_tests)

not_empty : (n : ℕ) → (n == 0) ≡ false → 0 < n
not_empty n is = grind (arith, nat_tests)

pub returns-in_err-node : goal.returns-in_err-node
returns-in_err-node c = c.from_residual.ensures ∙ sym (first_child-no_node c.args.row.now (sym c.in_err-node.ensures))

pub returns-then-node : goal.returns-then-node
returns-then-node c =
    let node = shape_of c.in_ok-node.node in
    let is = first_child-node c.args.row.now node (sym c.in_ok-node.ensures) in
    elim c.then-node.branch [
      | then-node-via-then-node w ↦ sym (is ∙ ap (λ (leaf : Bool). child_of leaf node.pairs) w.if-node.true ∙ child_of-leaf node.pairs)
      | then-node-via-else-node+then-is_empty w ↦
          sym (is ∙ child_of-empty node.leaf node.pairs (sym (ap length c.as_slice-pairs.ensures.value) ∙ empty_if (length c.as_slice-pairs.result.now) (sym w.is_empty.ensures ∙ w.if-is_empty.true)))
    ]

pub returns : goal.returns
returns c =
    let node = shape_of c.in_ok-node.node in
    let same = c.as_slice-pairs.ensures.value in
    let is = first_child-node c.args.row.now node (sym c.in_ok-node.ensures) in
    let some : 0 < length node.pairs = omega (arith, ap length same, not_empty (length c.as_slice-pairs.result.now) (sym c.is_empty.ensures ∙ c.if-is_empty.false)) in
    ap (λ (pairs : List (ℕ × ℕ)). Some (get_or pairs 0 (0, 0)).1) same
    ∙ sym (is ∙ ap (λ (leaf : Bool). child_of leaf node.pairs) c.if-node.false ∙ child_of-inner node.pairs some)
