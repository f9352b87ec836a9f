use Rattle.erm_map_world.specs.MapWorks.{work_in}
use Rattle.erm_map_world.specs.Standing.{map_of}
use Rattle.erm_map_world.proofs.MapClauses.{snapshot_begins}
use Rattle.erm_map_world.proofs.safe.MapWorldSafeWorld.snapshot_begin.Goals as goal

pub returns : goal.returns
returns g c =
    let s = c.args.self.now in
    snapshot_begins g.L.RowLaw.law (map_of s) s.phase (work_in s.work) c.args._seat c.requires.session c.requires.snapshot
