use Rattle.std.proofs.Common.{◌≡◌}
use Rattle.erm_world.proofs.Halfway.{halfway}
use Rattle.erm_map_world.proofs.works.restore.Given as goal

abbrev pub invariant-loop-i : goal.invariant-loop-i
invariant-loop-i l = l.c-items ≡ halfway l.saved l.fn.claims.items l.i
