use Rattle.std.proofs.Common.{arith}
use Rattle.erm_follow.proofs.Dropped.{drop-popped, some_left}
use Rattle.erm_follow.proofs.turn.drop_first.Goals as goal

pub loop-preserved : goal.loop-preserved
loop-preserved c =
    drop-popped c.args.waiting.now.keys c.loop.waiting.keys c.pop_first.new.self.keys c.loop.counter c.pop_first.result c.loop.invariant
    (some_left c.args.waiting.now.keys c.loop.waiting.keys c.loop.counter c.loop.invariant (omega (arith, c.loop-test.true, c.requires))) c.pop_first.ensures.variant.1 c.pop_first.ensures.removal
