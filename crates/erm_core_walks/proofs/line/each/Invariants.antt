use Rattle.erm_core.specs.Ready.{IsReady}
use Rattle.erm_core_walks.proofs.line.each.Given as goal

abbrev pub invariant-loop-k : goal.invariant-loop-k
invariant-loop-k l = IsReady l.state
