use Rattle.std.proofs.Common.{length}
use Rattle.erm_tree.proofs.plan.+plan_below.Given as goal

abbrev pub decreases-plan_below : goal.decreases-plan_below
decreases-plan_below l = length l.path.now
