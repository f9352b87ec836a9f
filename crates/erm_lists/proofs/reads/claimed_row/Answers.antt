use Rattle.erm_core_steps.proofs.Rows.{row_more}
use Rattle.erm_lists.proofs.reads.claimed_row.Goals as goal

pub loop-c-preserved : goal.loop-c-preserved
loop-c-preserved c =
    row_more c.args.claims.now c.loop-c.c-index _ c.args.oid c.loop-c.row c.row_after-row.result c.loop-c-test.true c.loop-c.invariant c.row_after-row.ensures
