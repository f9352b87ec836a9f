use Rattle.erm_model.specs.RowTransaction.{any_law}
use Rattle.erm_map_world.specs.Standing.{Stands}
use Rattle.erm_world_cases.proofs.map_world.first_other.Given as goal

abbrev pub invariant-loop-place : goal.invariant-loop-place
invariant-loop-place l = Stands any_law l.world
