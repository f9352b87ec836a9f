use Rattle.std.proofs.Common.{◌≤◌, IfSome}
use Rattle.erm_outside_real.proofs.host_files.HostFilesFileSystem.next_segment.Given as goal

-- the least so far lies at or above the number asked for
abbrev pub invariant-loop-entry : goal.invariant-loop-entry
invariant-loop-entry g l = IfSome l.least (λ n. l.from ≤ n)
