use Rattle.erm_core.specs.Cores.{core_of}
use Rattle.erm_core_ready.specs.Next.{FoundBelow, HasStamp}
use Rattle.erm_core_ready.proofs.least_sealed.Given as goal

abbrev pub invariant-loop-seat : goal.invariant-loop-seat
invariant-loop-seat l = FoundBelow (HasStamp (core_of l.state)) l.seat l.least
