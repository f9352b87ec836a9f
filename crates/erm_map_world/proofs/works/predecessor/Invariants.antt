use Rattle.std.specs.Prelude.{map, take}
use Rattle.erm_model.specs.History.{IsPredecessorStamp}
use Rattle.erm_map_world.specs.MapWorks.{commit_with, done_of, work_in}
use Rattle.erm_map_world.proofs.works.predecessor.Given as goal
use Rattle.erm_world.specs.World.{committed_in}

abbrev pub invariant-loop-done : goal.invariant-loop-done
invariant-loop-done l = IsPredecessorStamp (committed_in 1 (map done_of (take l.done-index l.over))) l.greatest (commit_with (work_in l.t) 0)
