use Rattle.std.proofs.Common.{◌∙◌}
use Rattle.erm_map_world.proofs.MapRows.{found_before, found_here}
use Rattle.erm_map_world.proofs.works.own.Goals as goal
use Rattle.erm_map_world.proofs.works.own.Goals.{then-c-oid, else-c-oid}

pub loop-c-preserved : goal.loop-c-preserved
loop-c-preserved c = elim c.if-c-oid.branch [
  | then-c-oid w ↦ w.found-is ∙ found_here c.args.claims.now c.args.oid c.loop-c.c-index _ c.loop-c-test.true w.if-c-oid.true
  | else-c-oid w ↦ w.found-is ∙ c.loop-c.invariant ∙ found_before c.args.claims.now c.args.oid c.loop-c.c-index _ c.loop-c-test.true w.if-c-oid.false
]
