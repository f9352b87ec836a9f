use Rattle.std.proofs.Common.{◌≡◌, take}
use Rattle.erm_map_world.specs.MapWorks.{found_row}
use Rattle.erm_map_world.proofs.works.own.Given as goal

abbrev pub invariant-loop-c : goal.invariant-loop-c
invariant-loop-c l = l.found ≡ found_row (take l.c-index l.claims) l.oid
