use Rattle.erm_tree.proofs.Runs.{objects_for-steps_all, objects_for-steps_some}
use Rattle.erm_tree.proofs.plan.objects_for.Goals as goal

pub returns-then-full-path : goal.returns-then-full-path
returns-then-full-path c = objects_for-steps_all c.args.path.now c.full_run-full.result c.full_run-full.ensures.count c.if-full-path.true

pub returns-else-full-path : goal.returns-else-full-path
returns-else-full-path c = objects_for-steps_some c.args.path.now c.full_run-full.result c.full_run-full.ensures.count c.if-full-path.false
