use Rattle.erm_core.specs.Cores.{core_of}
use Rattle.erm_core_ready.specs.Next.{FoundBelow, HasBegin}
use Rattle.erm_core_ready.proofs.earliest.Given as goal

abbrev pub invariant-loop-seat : goal.invariant-loop-seat
invariant-loop-seat l = FoundBelow (HasBegin (core_of l.state)) l.seat l.least
