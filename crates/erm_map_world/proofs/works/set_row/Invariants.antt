use Rattle.std.proofs.Common.{◌≡◌, ◌++◌, map, take, drop}
use Rattle.erm_world.specs.Works.{with_row}
use Rattle.erm_map_world.proofs.works.set_row.Given as goal

abbrev pub invariant-loop-c : goal.invariant-loop-c
invariant-loop-c l = l.c-items ≡ map (with_row l.oid l.row) (take l.c-index l.fn.claims.items) ++ drop l.c-index l.fn.claims.items
