use Rattle.std.proofs.Common.{ℕ, List, [], ◌∷◌, ◌++◌, get_or, sym, ap, ◌∙◌, append_assoc, decimal}
use Rattle.erm_log.specs.Texts.{node_word, pair_text}
use Rattle.erm_log.proofs.Pushing.{one_more}
use Rattle.erm_log.proofs.block_text.push_node.Goals as goal

pub loop-pair-preserved : goal.loop-pair-preserved
loop-pair-preserved c =
    let pair : ℕ × ℕ = get_or c.as_slice-pair-items.result.now c.loop-pair.pair-index (0, 0) in
    one_more pair_text c.args.out.now.items (node_word c.args.node.now.leaf) c.loop-pair.out.items c.push_count-in-loop-pair.new.out.items c.args.node.now.pairs.items c.as_slice-pair-items.result.now
    c.loop-pair.pair-index (0, 0) c.as_slice-pair-items.ensures.value c.loop-pair-test.true c.loop-pair.invariant (
    c.in_ok-push_count-2.ensures ∙ ap (λ (t : List ℕ). t ++ 58 ∷ decimal c.from.result) c.in_ok-push_count.ensures
    ∙ append_assoc c.loop-pair.out.items (32 ∷ decimal pair.0) (58 ∷ decimal c.from.result)
    ∙ ap (λ (n : ℕ). c.loop-pair.out.items ++ ((32 ∷ decimal pair.0) ++ 58 ∷ decimal n)) c.from.ensures
    ∙ ap (λ (t : List ℕ). c.loop-pair.out.items ++ t) (sym (append_assoc (32 ∷ decimal pair.0) (58 ∷ []) (decimal pair.1))))
