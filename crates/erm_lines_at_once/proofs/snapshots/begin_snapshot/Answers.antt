use Rattle.erm_lines_at_once.proofs.Watched.{begun_pending, tried_behind}
use Rattle.erm_lines_at_once.proofs.snapshots.begin_snapshot.Goals as goal

pub try_safe-requires-clause-pending : goal.try_safe-requires-clause-pending
try_safe-requires-clause-pending g c =
    begun_pending (g.S.SharedSession.seat c.args.session.now) (g.S.SharedSession.seat c.begin_safe.new.self) c.in-Ok.field-0 (g.S.SharedSession.own c.args.session.now)
    (g.S.SharedSession.own c.begin_safe.new.self) c.begin_safe.ensures.onward.seat_is c.in-Ok.ensures.ok

pub returns-in-Ok-clause-tried : goal.returns-in-Ok-clause-tried
returns-in-Ok-clause-tried g c = λ f end.
    tried_behind f (g.S.SharedSession.seat c.args.session.now) (g.S.SharedSession.seat c.begin_safe.new.self) c.in-Ok.field-0 c.try_safe.result (g.S.SharedSession.own c.args.session.now)
    (g.S.SharedSession.own c.begin_safe.new.self) (g.S.SharedSession.own c.try_safe.new.session) c.begin_safe.ensures.onward.seat_is c.in-Ok.ensures.ok (c.try_safe.ensures.tried f end)
