use Rattle.std.proofs.Common.{ℕ, ◌<◌}
use Rattle.erm_core.specs.Cores.{core_of}
use Rattle.erm_core_ready.specs.Next.{IsActing}
use Rattle.erm_core_ready.proofs.acting.Given as goal

abbrev pub invariant-loop-seat : goal.invariant-loop-seat
invariant-loop-seat l = (q : ℕ) → q < l.seat → IsActing (core_of l.state) q → ⊥
