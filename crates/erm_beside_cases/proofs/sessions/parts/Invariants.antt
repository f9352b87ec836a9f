use Rattle.std.proofs.Common.{◌≡◌, ◌≤◌, length}
use Rattle.erm_beside_cases.proofs.sessions.parts.Given as goal

abbrev pub invariant-loop-seat : goal.invariant-loop-seat
invariant-loop-seat l = (length l.parts.items ≡ l.seat) × (l.seat ≤ 10)
