use Rattle.erm_core_steps.proofs.Pinned.{below_more}
use Rattle.erm_lists.proofs.rows_at.row_below.Goals as goal

pub loop-v-preserved : goal.loop-v-preserved
loop-v-preserved c =
    below_more c.args.bound c.args.versions.now c.loop-v.v-index _ c.loop-v.row c.row_with-row.result c.loop-v-test.true c.loop-v.invariant c.row_with-row.ensures
