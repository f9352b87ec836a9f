use Rattle.erm_world_cases.proofs.Stay.{begun_kept}
use Rattle.erm_world_cases.proofs.sessions.begin.Goals as goal

pub returns-clause-runs : goal.returns-clause-runs
returns-clause-runs g c = (begun_kept (g.W.RowWorld.view c.args.world.now) _ c.args.seat c.begin.result c.requires.idle c.begun_transactions_are_runs.ensures c.requires.runs c.begin.ensures.ok c.begin.ensures.err).0

pub returns-clause-opening : goal.returns-clause-opening
returns-clause-opening g c = (begun_kept (g.W.RowWorld.view c.args.world.now) _ c.args.seat c.begin.result c.requires.idle c.begun_transactions_are_runs.ensures c.requires.runs c.begin.ensures.ok c.begin.ensures.err).1
