use Rattle.std.proofs.Common.{◌≡◌, length, ◌-◌, ◌≤◌}
use Rattle.erm_outside_real.proofs.folder.read_from.Given as goal

-- no more was read than fits, and the calls told are the same
abbrev pub invariant-loop-count : goal.invariant-loop-count
invariant-loop-count g l = (l.count ≤ length l.buf) × (g.S.FileSystem.calls l.files ≡ g.S.FileSystem.calls l.initial.files)

abbrev pub decreases-loop-count : goal.decreases-loop-count
decreases-loop-count g l = length l.initial.buf - l.count
