use Rattle.std.proofs.Common.{◌≡◌, drop}
use Rattle.erm_world.specs.Works.{row_read}
use Rattle.erm_map_world.proofs.works.seen.Given as goal

abbrev pub invariant-loop-r : goal.invariant-loop-r
invariant-loop-r l = row_read l.reads l.oid ≡ row_read (drop l.r-index l.reads) l.oid
