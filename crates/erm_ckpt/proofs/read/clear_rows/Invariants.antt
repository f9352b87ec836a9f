use Rattle.std.proofs.Common.{◌≡◌, ℕ, ◌<◌, [], get_or, replicate}
use Rattle.erm_ckpt.proofs.read.clear_rows.Given as goal

-- the rows so far are zero
abbrev pub invariant-loop-row : goal.invariant-loop-row
invariant-loop-row l = (k : ℕ) → k < l.row-index → get_or l.rows k [] ≡ replicate 16 0
