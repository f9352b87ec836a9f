use Rattle.std.proofs.Common.{ap}
use Rattle.erm_model.specs.declared.history.VersionRead.{VersionRead}
use Rattle.erm_map_world.specs.MapWorks.{work_in}
use Rattle.erm_map_world.specs.Standing.{map_of}
use Rattle.erm_map_world.proofs.MapClauses.{read_safe}
use Rattle.erm_map_world.proofs.MapRows.{newest_in}
use Rattle.erm_map_world.proofs.safe.MapWorldSafeWorld.safe_read.Goals as goal

pub returns-clause-row : goal.returns-clause-row
returns-clause-row g c =
    let s = c.args.self.now in
    let newest_is =
    newest_in c.as_slice.result.now s.rows.items c.as_slice-2.result.now s.over.items c.args.oid c.newest_version.result c.as_slice.ensures.value c.as_slice-2.ensures.value c.newest_version.ensures
    in
    read_safe g.L.RowLaw.law (map_of s) s.phase (work_in s.work) c.args._seat c.requires.session c.args.oid _ c.requires.safe (ap (λ (r : VersionRead). r.row) newest_is) c.requires.stands
