use Rattle.std.proofs.Common.{arith}
use Rattle.erm_explain.proofs.Found.{at_within}
use Rattle.erm_explain.proofs.links.find_other.Goals as goal

pub returns-clause-none : goal.returns-clause-none
returns-clause-none c any other within touches =
    let low = at_within c.args.others.now within.0 other within.1 in
    c.loop-other.invariant any within.0 other (omega (arith, low, c.loop-other-test.false)) within.1 touches
