use Rattle.std.proofs.Common.{◌≡◌, take}
use Rattle.erm_map_world.proofs.works.copied.Given as goal

abbrev pub invariant-loop-c : goal.invariant-loop-c
invariant-loop-c l = l.copy.items ≡ take l.c-index l.claims
