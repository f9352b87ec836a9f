use Rattle.std.proofs.Common.{length}
use Rattle.erm_follow_run.specs.Draining.{Drains}
use Rattle.erm_follow_run.proofs.drained.drain.Given as goal

abbrev pub invariant-items : goal.invariant-items
invariant-items l = Drains l.fn.stream l.fn.follow l.text l.stream l.follow

abbrev pub decreases-items : goal.decreases-items
decreases-items l = length l.stream.rest
