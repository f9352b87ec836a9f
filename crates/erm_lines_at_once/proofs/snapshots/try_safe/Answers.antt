use Rattle.erm_lines_at_once.proofs.Watched.{is_safe, is_unsafe, waits_pass}
use Rattle.erm_lines_at_once.proofs.snapshots.try_safe.Goals as goal

pub returns-in-Ok-clause-tried : goal.returns-in-Ok-clause-tried
returns-in-Ok-clause-tried g c = λ f end.
    is_safe f (g.S.SharedSession.seat c.args.session.now) c.snapshot_begin-begin.result (g.S.SharedSession.own c.args.session.now) (g.S.SharedSession.own c.safe.new.self)
    c.snapshot_begin-begin.ensures c.in-Ok.ensures.ok (c.in-Ok.ensures.safe f end)

pub returns-in-Err-NotYet-clause-tried : goal.returns-in-Err-NotYet-clause-tried
returns-in-Err-NotYet-clause-tried g c = λ f end.
    waits_pass (g.S.SharedSession.seat c.args.session.now) c.in-Err-NotYet.field-0-0 c.in-Err-NotYet.field-0-1 c.in-Err-NotYet.field-0 (g.S.SharedSession.own c.args.session.now)
    (g.S.SharedSession.own c.safe.new.self) c.in-Err-NotYet.field-0-is c.in-Err-NotYet.ensures.err

pub returns-in-Err-Unsafe-clause-tried : goal.returns-in-Err-Unsafe-clause-tried
returns-in-Err-Unsafe-clause-tried g c = λ f end.
    is_unsafe f (g.S.SharedSession.seat c.args.session.now) c.in-Err-Unsafe.seat c.in-Err-Unsafe.stamp c.in-Err-Unsafe.field-0 (g.S.SharedSession.own c.args.session.now)
    (g.S.SharedSession.own c.safe.new.self) c.in-Err-Unsafe.field-0-is c.in-Err-Unsafe.ensures.err (c.in-Err-Unsafe.ensures.met f end)
