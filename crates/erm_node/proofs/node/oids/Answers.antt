use Rattle.std.proofs.Common.{ℕ, List, get_or, set, ap, ◌∙◌, arith}
use Rattle.erm_node.proofs.Places.{filled_more, filled_all}
use Rattle.erm_node.proofs.node.oids.Goals as goal

pub loop-i-preserved : goal.loop-i-preserved
loop-i-preserved c =
    ap (λ (oid : ℕ). set c.loop-i.oids c.loop-i.i oid) c.from.ensures
    ∙ ap (λ (oids : List ℕ). set oids c.loop-i.i (get_or c.args.pairs.now c.loop-i.i (0, 0)).1) c.loop-i.invariant ∙ filled_more (λ (p : ℕ × ℕ). p.1) c.args.pairs.now c.loop-i.i (0, 0) c.loop-i-test.true (omega arith)

pub returns : goal.returns
returns c = c.loop-i.invariant ∙ filled_all (λ (p : ℕ × ℕ). p.1) c.args.pairs.now c.loop-i.i (omega arith)
