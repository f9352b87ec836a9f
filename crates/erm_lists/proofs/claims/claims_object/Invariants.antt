use Rattle.std.proofs.Common.{◌≡◌, map, take, false}
use Rattle.erm_machine.specs.Decided.{written_of}
use Rattle.erm_world.specs.Works.{is_claimed}
use Rattle.erm_lists.proofs.claims.claims_object.Given as goal

abbrev pub invariant-loop-c : goal.invariant-loop-c
invariant-loop-c l = is_claimed (map written_of (take l.c-index l.claims)) l.oid ≡ false
