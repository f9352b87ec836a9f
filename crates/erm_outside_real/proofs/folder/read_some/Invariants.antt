use Rattle.std.proofs.Common.{◌≡◌}
use Rattle.erm_outside_real.proofs.folder.read_some.Given as goal

-- the calls told are the same
abbrev pub invariant-loop : goal.invariant-loop
invariant-loop g l = g.S.FileSystem.calls l.files ≡ g.S.FileSystem.calls l.initial.files
