use Rattle.std.proofs.Common.{ℕ, ◌<◌}
use Rattle.erm_core.specs.Cores.{core_of}
use Rattle.erm_core_stall.specs.Waiting.{IsSealing}
use Rattle.erm_core_ready.proofs.sealing.Given as goal

abbrev pub invariant-loop-seat : goal.invariant-loop-seat
invariant-loop-seat l = (q : ℕ) → q < l.seat → IsSealing ((core_of l.state).seats q).place → ⊥
