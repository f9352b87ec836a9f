use Rattle.std.proofs.Common.{sym}
use Rattle.erm_core_steps.proofs.Stored.{claimed_from, unclaimed_more}
use Rattle.erm_lists.proofs.claims.claims_object.Goals as goal

pub returns-then-c-oid : goal.returns-then-c-oid
returns-then-c-oid c = sym (claimed_from c.args.claims.now c.loop-c.c-index _ c.args.oid c.loop-c-test.true c.if-c-oid.true)

pub loop-c-preserved : goal.loop-c-preserved
loop-c-preserved c = unclaimed_more c.args.claims.now c.loop-c.c-index _ c.args.oid c.loop-c-test.true c.loop-c.invariant c.if-c-oid.false
