use Rattle.std.proofs.Common.{◌≡◌, ◌≤◌, true, inl, inr, sym, ap, ◌∙◌, arith, length}
use Rattle.std.specs.Prelude.{◌⊎◌}
use Rattle.std.proofs.lemmas.Bool.{leb-true}
use Rattle.erm_node.specs.NodeShape.{shape_of}
use Rattle.erm_node.specs.Node.{ascends}
use Rattle.erm_node.proofs.Shapes.{is_node-ordered}
use Rattle.erm_node.proofs.node.is_node.Goals as goal
use Rattle.erm_node.proofs.node.is_node.Goals.{then-node, else-node}

pub returns-then-len-ge2 : goal.returns-then-len-ge2
returns-then-len-ge2 c = λ narrow.
    let pairs = c.args.node.now.pairs.items in
    let enough : (c.args.node.now.leaf ≡ true) ⊎ (2 ≤ length pairs) =
    elim c.if-node.branch as (λ _. (c.args.node.now.leaf ≡ true) ⊎ (2 ≤ length pairs)) [ then-node w ↦ inl w.if-node.true | else-node w ↦ inr (omega (arith, leb-true 2 w.len.result (sym w.value-is ∙ c.if-len-ge2.true), w.len.ensures.value)) ] in
    c.ascends.ensures ∙ ap ascends c.as_slice.ensures.value ∙ sym (is_node-ordered (shape_of c.args.node.now) (omega (arith, ap length c.as_slice.ensures.value)) narrow enough)
