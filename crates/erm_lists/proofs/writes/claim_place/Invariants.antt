use Rattle.std.proofs.Common.{◌≡◌, map, take, false}
use Rattle.erm_machine.specs.Decided.{written_of}
use Rattle.erm_world.specs.Works.{is_claimed}
use Rattle.erm_lists.proofs.writes.claim_place.Given as goal

abbrev pub invariant-loop-place : goal.invariant-loop-place
invariant-loop-place l = is_claimed (map written_of (take l.place l.claims)) l.oid ≡ false
