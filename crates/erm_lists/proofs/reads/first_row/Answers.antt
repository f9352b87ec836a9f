use Rattle.std.proofs.Common.{sym}
use Rattle.erm_core_steps.proofs.Rows.{first_at, none_more}
use Rattle.erm_lists.proofs.reads.first_row.Goals as goal

pub returns-then-r-oid : goal.returns-then-r-oid
returns-then-r-oid c = sym (first_at c.args.reads.now c.loop-r.r-index _ c.args.oid c.loop-r-test.true c.loop-r.invariant c.if-r-oid.true)

pub loop-r-preserved : goal.loop-r-preserved
loop-r-preserved c = none_more c.args.reads.now c.loop-r.r-index _ c.args.oid c.loop-r-test.true c.loop-r.invariant c.if-r-oid.false
