use Rattle.std.proofs.Common.{ℕ, ◌<◌}
use Rattle.erm_log.specs.Behind.{ReadsBehind}
use Rattle.erm_log.proofs.behind.first_block.Given as goal

-- no block reads so far
abbrev pub invariant-loop-skipped : goal.invariant-loop-skipped
invariant-loop-skipped l = (less run : ℕ) → less < l.skipped → ReadsBehind l.words l.end less run → ⊥
