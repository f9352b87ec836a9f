use Rattle.erm_model.specs.RowTransaction.{any_law}
use Rattle.erm_map_world.specs.Standing.{Stands}
use Rattle.erm_world_cases.proofs.map_world.first_unread.Given as goal

abbrev pub invariant-loop-oid : goal.invariant-loop-oid
invariant-loop-oid l = Stands any_law l.world
