use Rattle.std.proofs.Common.{ℕ, ◌<◌}
use Rattle.erm_slow.specs.Slow.{IsNewStamp, IsOpenAt}
use Rattle.erm_slow.proofs.is_certified.Given as goal

abbrev pub invariant-loop-place : goal.invariant-loop-place
invariant-loop-place l = (k : ℕ) → k < l.place → IsNewStamp l.history k × IsOpenAt l.history k
