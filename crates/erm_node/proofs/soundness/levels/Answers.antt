use Rattle.std.proofs.Common.{sym, ◌∙◌, arith}
use Rattle.erm_model.specs.Rows.{rows_of}
use Rattle.erm_node.proofs.Levels.{levels_of-root, levels_of-down, levels_of-here, levels_of-end}
use Rattle.erm_node.proofs.soundness.levels.Goals as goal

pub loop-level-init : goal.loop-level-init
loop-level-init c = levels_of-root (rows_of c.args.rows.now) c.args.oid

pub loop-level-preserved : goal.loop-level-preserved
loop-level-preserved c =
    levels_of-down (rows_of c.args.rows.now) c.args.oid c.loop-level.level c.loop-level.at c.in-Some.child c.loop-level-test.true (sym c.child_of.ensures ∙ c.in-Some.is) c.loop-level.invariant

pub returns-in-None : goal.returns-in-None
returns-in-None c =
    sym (levels_of-here (rows_of c.args.rows.now) c.args.oid c.loop-level.level c.loop-level.at c.loop-level-test.true (sym c.child_of.ensures ∙ c.in-None.is) c.loop-level.invariant)

pub returns : goal.returns
returns c =
    sym (levels_of-end (rows_of c.args.rows.now) c.args.oid c.loop-level.at c.loop-level.level (omega arith) (omega arith) c.loop-level.invariant)
