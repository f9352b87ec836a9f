use Rattle.erm_core.specs.Ready.{IsReady}
use Rattle.erm_core_walks.proofs.main.Given as goal

abbrev pub invariant-loop-line : goal.invariant-loop-line
invariant-loop-line l = IsReady l.state
