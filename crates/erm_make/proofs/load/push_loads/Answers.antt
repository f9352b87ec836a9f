use Rattle.std.proofs.Common.{◌+◌, arith}
use Rattle.erm_make.specs.Workload.{loads}
use Rattle.erm_make.proofs.Steps.{Adds-more, Adds-same, loads-more, loads-none}
use Rattle.erm_make.proofs.load.push_loads.Goals as goal

pub loop-number-init : goal.loop-number-init
loop-number-init c = (Adds-same (loads 0) c.args.lines.now.items loads-none, omega arith)

pub loop-number-preserved : goal.loop-number-preserved
loop-number-preserved c = (
  Adds-more (loads (c.loop-number.number + 1)) c.loop-number.invariant.0 c.in_ok-push_load_transaction.ensures.added (loads-more c.loop-number.number),
  omega (arith, c.in_ok-push_load_transaction.ensures.many),
)
