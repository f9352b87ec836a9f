use Rattle.std.proofs.Common.{◌+◌, arith}
use Rattle.erm_script.specs.declared.script.Command.TheVariants as command
use Rattle.erm_make.specs.Workload.{by_each}
use Rattle.erm_make.proofs.Steps.{Adds-more, Adds-same, by_each-more, by_each-none}
use Rattle.erm_make.proofs.lines.push_commits.Goals as goal

pub loop-place-init : goal.loop-place-init
loop-place-init c = (Adds-same (by_each 0 command.Commit) c.args.lines.now.items (by_each-none command.Commit), omega arith)

pub loop-place-preserved : goal.loop-place-preserved
loop-place-preserved c = (
  Adds-more (by_each (c.loop-place.place + 1) command.Commit) c.loop-place.invariant.0 c.in_ok-push.ensures.added (by_each-more c.loop-place.place command.Commit),
  omega (arith, c.in_ok-push.ensures.many),
)
