use Rattle.std.proofs.Common.{◌≡◌, ℕ, ◌≤◌, get_or}
use Rattle.erm_record.proofs.stored.stored_length.Given as goal

-- only zeros follow
abbrev pub invariant-loop-i : goal.invariant-loop-i
invariant-loop-i l = (k : ℕ) → l.i ≤ k → get_or l.row k 0 ≡ 0
