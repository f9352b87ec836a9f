use Rattle.std.proofs.Common.{◌≡◌, map, take, None}
use Rattle.erm_machine.specs.Decided.{read_of}
use Rattle.erm_world.specs.Works.{row_read}
use Rattle.erm_lists.proofs.reads.first_row.Given as goal

abbrev pub invariant-loop-r : goal.invariant-loop-r
invariant-loop-r l = row_read (map read_of (take l.r-index l.reads)) l.oid ≡ None
