use Rattle.erm_lines_at_once.proofs.Watched.{begun_pending}
use Rattle.erm_worker.proofs.Watching.{snapshot_asked}
use Rattle.erm_worker.proofs.snapshots.begin_snapshot.Goals as goal

pub ask-requires-clause-pending : goal.ask-requires-clause-pending
ask-requires-clause-pending g c =
    begun_pending (g.S.SharedSession.seat c.args.session.now) (g.S.SharedSession.seat c.begin_safe.new.self) c.in-Ok.field-0 (g.S.SharedSession.own c.args.session.now)
    (g.S.SharedSession.own c.begin_safe.new.self) c.begin_safe.ensures.onward.seat_is c.in-Ok.ensures.ok

pub returns-in-Ok-clause-asked : goal.returns-in-Ok-clause-asked
returns-in-Ok-clause-asked g c = λ f end.
    snapshot_asked f (g.S.SharedSession.seat c.args.session.now) (g.S.SharedSession.seat c.begin_safe.new.self) c.in-Ok.field-0 c.ask.result (g.S.SharedSession.own c.args.session.now)
    (g.S.SharedSession.own c.begin_safe.new.self) (g.S.SharedSession.own c.ask.new.session) c.begin_safe.ensures.onward.seat_is c.requires.idle c.in-Ok.ensures.ok (c.ask.ensures.asked f end)
