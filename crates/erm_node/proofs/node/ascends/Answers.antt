use Rattle.std.proofs.Common.{sym, ◌∙◌, arith, length-drop}
use Rattle.std.specs.Prelude.{drop, ◌-◌}
use Rattle.erm_node.proofs.Places.{ascends_more, ascends_no_more, ascends_last}
use Rattle.erm_node.proofs.node.ascends.Goals as goal

pub loop-i-preserved : goal.loop-i-preserved
loop-i-preserved c = c.loop-i.invariant ∙ ascends_more c.args.pairs.now c.loop-i.i (omega arith) (omega arith) (omega arith)

pub returns-then-pairs-i : goal.returns-then-pairs-i
returns-then-pairs-i c = sym (c.loop-i.invariant ∙ ascends_no_more c.args.pairs.now c.loop-i.i (omega arith) (omega arith) (omega arith))

pub returns : goal.returns
returns c = sym (c.loop-i.invariant ∙ ascends_last (drop (c.loop-i.i - 1) c.args.pairs.now) (omega (arith, length-drop (c.loop-i.i - 1) c.args.pairs.now)))
