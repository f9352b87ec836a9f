use Rattle.erm_lines.proofs.Watched.{begun_pending}
use Rattle.erm_lines.proofs.snapshots.begin_snapshot.Goals as goal

pub ask-requires-clause-pending : goal.ask-requires-clause-pending
ask-requires-clause-pending g c =
    begun_pending (g.W.RowWorld.view c.args.world.now) (g.W.RowWorld.view c.begin_safe.new.self) c.args.seat c.in-Ok.field-0 c.in-Ok.ensures.ok
