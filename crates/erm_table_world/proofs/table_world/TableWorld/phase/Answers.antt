use Rattle.std.proofs.Common.{◌∙◌}
use Rattle.erm_table_world.proofs.Sessions.{here}
use Rattle.erm_table_world.proofs.table_world.TableWorld.phase.Goals as goal

pub returns : goal.returns
returns g c =
    let h = c.index.ensures in
    c.phase.ensures ∙ (here g.L.RowLaw.law c.args.self.now c.args.seat c.index.result.now c.requires.stands c.requires.session c.index.ensures).phase
