use Rattle.std.proofs.Common.{◌∷◌, ◌++◌, take, drop, replicate, length, ap, ◌∙◌, arith}
use Rattle.erm_node.specs.NodeShape.{shape_of}
use Rattle.erm_node.specs.Node.{keys_of, oids_of, filled}
use Rattle.erm_node.proofs.Shapes.{placed_is}
use Rattle.erm_node.proofs.node.row_of_node.Goals as goal

pub returns : goal.returns
returns c =
    let pairs = c.as_slice-pairs.ensures.value in
    let keys = c.copy_from_slice.new.self in
    let oids = c.copy_from_slice-2.new.self in
    let keys_are = c.copy_from_slice.ensures.after ∙ c.keys.ensures ∙ ap (λ ps. filled (keys_of ps)) pairs in
    let oids_are = c.copy_from_slice-2.ensures.after ∙ c.oids.ensures ∙ ap (λ ps. filled (oids_of ps)) pairs in
    ap (λ ps. c.kind.result ∷ length ps ∷ (take 7 (keys ++ replicate 7 0) ++ (oids ++ drop 7 (drop 7 (keys ++ replicate 7 0))))) pairs
    ∙ placed_is (shape_of c.args.node.now) c.kind.result keys oids c.kind.ensures (omega (arith, ap length pairs)) keys_are oids_are
