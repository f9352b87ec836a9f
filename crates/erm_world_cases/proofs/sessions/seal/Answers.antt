use Rattle.erm_world.specs.World.{work_at}
use Rattle.erm_world_cases.proofs.Stay.{lawful_as, sealed_kept}
use Rattle.erm_world_cases.proofs.sessions.seal.Goals as goal

pub seal-requires-clause-lawful : goal.seal-requires-clause-lawful
seal-requires-clause-lawful g c = lawful_as g.W.RowWorld.law c.requires.law (work_at (g.W.RowWorld.view c.args.world.now) c.args.seat) (c.requires.runs c.args.seat c.requires.session c.requires.active).1.lawful

pub returns-clause-runs : goal.returns-clause-runs
returns-clause-runs g c = (sealed_kept (g.W.RowWorld.view c.args.world.now) _ c.args.seat c.seal.result c.requires.runs c.seal.ensures.sealed).0
