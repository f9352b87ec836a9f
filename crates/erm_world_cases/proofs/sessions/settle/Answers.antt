use Rattle.erm_world_cases.proofs.Stay.{settled_kept}
use Rattle.erm_world_cases.proofs.sessions.settle.Goals as goal

pub returns-clause-runs : goal.returns-clause-runs
returns-clause-runs g c = (settled_kept (g.W.RowWorld.view c.args.world.now) _ c.args.seat c.settle.result c.requires.runs c.settle.ensures.ok c.settle.ensures.err).0

pub returns-clause-opening : goal.returns-clause-opening
returns-clause-opening g c = (settled_kept (g.W.RowWorld.view c.args.world.now) _ c.args.seat c.settle.result c.requires.runs c.settle.ensures.ok c.settle.ensures.err).1
