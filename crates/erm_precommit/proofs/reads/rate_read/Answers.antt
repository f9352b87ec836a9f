use Rattle.erm_precommit.proofs.Standing.{then_on}
use Rattle.erm_precommit.proofs.reads.rate_read.Goals as goal
use Rattle.erm_rule.proofs.Wents.{went_more}

pub returns-then-load_overwriter-clause-went : goal.returns-then-load_overwriter-clause-went
returns-then-load_overwriter-clause-went g c = then_on c.args.p.now.me.0.view c.args.who c.requires.stands.sealed _ _ c.load_overwriter.ensures.went c.load_succ.ensures.went

pub returns-else-load_overwriter-clause-passed : goal.returns-else-load_overwriter-clause-passed
returns-else-load_overwriter-clause-passed g c = c.load_overwriter.ensures.none c.if-load_overwriter.false

pub returns-then-load_overwriter-clause-loads : goal.returns-then-load_overwriter-clause-loads
returns-then-load_overwriter-clause-loads g c = went_more _ _ _ _ _ _ c.load_overwriter.ensures.loads c.load_succ.ensures.loads

pub load_succ-requires-clause-task : goal.load_succ-requires-clause-task
load_succ-requires-clause-task g c = c.load_overwriter.ensures.counts c.if-load_overwriter.true
