use Rattle.std.proofs.Common.{◌≡◌, map, drop}
use Rattle.erm_model.specs.Rows.{rows_of}
use Rattle.erm_map_world.specs.MapWorks.{done_of, newest, newest_after}
use Rattle.erm_map_world.proofs.works.newest_version.Given as goal

abbrev pub invariant-loop-done : goal.invariant-loop-done
invariant-loop-done l = newest_after (map done_of (drop l.done-index l.over)) l.found ≡ newest (rows_of l.rows) (map done_of l.over) l.oid
