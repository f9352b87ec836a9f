use Rattle.erm_cells.proofs.Took.{ends_still}
use Rattle.erm_rule.proofs.Courses.{seen_before}
use Rattle.erm_rule.proofs.Wents.{loads_still, went_goes, went_more}
use Rattle.erm_session.proofs.Snapshots.{has_waited, not_pending, pends, safe_session, took_back, unsafe_may_end, waiting_session, was_back, was_unsafe}
use Rattle.erm_session.proofs.session.Session.safe.Goals as goal

pub survey-requires-clause-active : goal.survey-requires-clause-active
survey-requires-clause-active g c = (pends c.args.self.now _ c.requires.stands c.in-Pending.begin c.in-Pending.next c.in-Pending.is).0

pub survey-requires-clause-surveys : goal.survey-requires-clause-surveys
survey-requires-clause-surveys g c = (pends c.args.self.now _ c.requires.stands c.in-Pending.begin c.in-Pending.next c.in-Pending.is).1

pub survey-requires-clause-session : goal.survey-requires-clause-session
survey-requires-clause-session g c = (pends c.args.self.now _ c.requires.stands c.in-Pending.begin c.in-Pending.next c.in-Pending.is).2

pub survey-requires-clause-begin : goal.survey-requires-clause-begin
survey-requires-clause-begin g c = (pends c.args.self.now _ c.requires.stands c.in-Pending.begin c.in-Pending.next c.in-Pending.is).3

pub returns-in-Ok-clause-known : goal.returns-in-Ok-clause-known
returns-in-Ok-clause-known g c = c.in-Ok.ensures.safe.known

pub returns-in-Ok-clause-stands : goal.returns-in-Ok-clause-stands
returns-in-Ok-clause-stands g c = safe_session c.args.self.now _ c.requires.stands c.in-Pending.begin c.in-Pending.next c.in-Pending.is _ c.in-Ok.ensures.safe

pub returns-in-Ok-clause-still : goal.returns-in-Ok-clause-still
returns-in-Ok-clause-still g c = loads_still _ _ _ _ c.survey.ensures.loads

pub returns-in-Err-NotYet-clause-known : goal.returns-in-Err-NotYet-clause-known
returns-in-Err-NotYet-clause-known g c =
    (has_waited c.args.p.now.me.0.view c.survey.new.p.me.0.view c.args.self.now.seat c.in-Err-NotYet.field-0 c.in-Err-NotYet.ensures.stopped c.in-Err-NotYet.seat c.in-Err-NotYet.seen c.in-Err-NotYet.field-0-is).known

pub returns-in-Err-NotYet-clause-stands : goal.returns-in-Err-NotYet-clause-stands
returns-in-Err-NotYet-clause-stands g c =
    waiting_session c.args.self.now _ c.requires.stands c.in-Pending.begin c.in-Pending.next c.in-Pending.is c.in-Err-NotYet.seat c.in-Err-NotYet.seen _
    (has_waited c.args.p.now.me.0.view c.survey.new.p.me.0.view c.args.self.now.seat c.in-Err-NotYet.field-0 c.in-Err-NotYet.ensures.stopped c.in-Err-NotYet.seat c.in-Err-NotYet.seen c.in-Err-NotYet.field-0-is)

pub returns-in-Err-NotYet-clause-still : goal.returns-in-Err-NotYet-clause-still
returns-in-Err-NotYet-clause-still g c = loads_still _ _ _ _ c.survey.ensures.loads

pub leave_snapshot-requires-clause-known : goal.leave_snapshot-requires-clause-known
leave_snapshot-requires-clause-known g c =
    (was_unsafe c.args.p.now.me.0.view c.survey.new.p.me.0.view c.args.self.now.seat c.in-Err-Unsafe.field-0 c.in-Err-Unsafe.ensures.stopped c.in-Err-Unsafe.seat c.in-Err-Unsafe.stamp c.in-Err-Unsafe.field-0-is).known

pub leave_snapshot-requires-clause-may : goal.leave_snapshot-requires-clause-may
leave_snapshot-requires-clause-may g c =
    unsafe_may_end c.args.self.now _ c.requires.stands c.in-Pending.begin c.in-Pending.next c.in-Pending.is c.in-Err-Unsafe.seat c.in-Err-Unsafe.stamp _
    (was_unsafe c.args.p.now.me.0.view c.survey.new.p.me.0.view c.args.self.now.seat c.in-Err-Unsafe.field-0 c.in-Err-Unsafe.ensures.stopped c.in-Err-Unsafe.seat c.in-Err-Unsafe.stamp c.in-Err-Unsafe.field-0-is)

pub returns-in-Err-Unsafe-clause-known : goal.returns-in-Err-Unsafe-clause-known
returns-in-Err-Unsafe-clause-known g c = c.leave_snapshot.ensures.ended.known

pub returns-in-Err-Unsafe-clause-refused : goal.returns-in-Err-Unsafe-clause-refused
returns-in-Err-Unsafe-clause-refused g c = record {
  between = c.survey.new.p.me.0.view;
  found = was_unsafe c.args.p.now.me.0.view c.survey.new.p.me.0.view c.args.self.now.seat c.in-Err-Unsafe.field-0 c.in-Err-Unsafe.ensures.stopped c.in-Err-Unsafe.seat c.in-Err-Unsafe.stamp c.in-Err-Unsafe.field-0-is;
  ended = c.leave_snapshot.ensures.ended;
  aborted = c.leave_snapshot.ensures.aborted;
}

pub returns-in-Err-Unsafe-clause-met : goal.returns-in-Err-Unsafe-clause-met
returns-in-Err-Unsafe-clause-met g c =
    seen_before c.args.p.now.me.0 _ c.survey.new.p.me.0 c.leave_snapshot.new.p.me.0
    (was_back c.args.p.now.me.0 c.in-Err-Unsafe.field-0 c.survey.new.p.me.0 c.in-Err-Unsafe.seat c.in-Err-Unsafe.stamp c.in-Err-Unsafe.field-0-is c.in-Err-Unsafe.ensures.met)
    (went_goes _ _ _ _ _ c.leave_snapshot.ensures.ends)

pub returns-in-Err-Unsafe-clause-took_none : goal.returns-in-Err-Unsafe-clause-took_none
returns-in-Err-Unsafe-clause-took_none g c = record {
  between = c.survey.new.p.me.0;
  looks = took_back g.L.RowLaw.law c.args.self.now.seat c.in-Err-Unsafe.field-0 c.args.p.now.me.0 c.survey.new.p.me.0 c.in-Err-Unsafe.seat c.in-Err-Unsafe.stamp c.in-Err-Unsafe.field-0-is c.in-Err-Unsafe.ensures.took_none;
  found = was_unsafe c.args.p.now.me.0.view c.survey.new.p.me.0.view c.args.self.now.seat c.in-Err-Unsafe.field-0 c.in-Err-Unsafe.ensures.stopped c.in-Err-Unsafe.seat c.in-Err-Unsafe.stamp c.in-Err-Unsafe.field-0-is;
  ends = c.leave_snapshot.ensures.ends;
  took = c.leave_snapshot.ensures.took;
  aborted = c.leave_snapshot.ensures.aborted;
}

pub returns-in-Err-Unsafe-clause-still : goal.returns-in-Err-Unsafe-clause-still
returns-in-Err-Unsafe-clause-still g c =
    went_more _ _ _ _ _ _ (loads_still _ _ _ _ c.survey.ensures.loads) (ends_still _ _ _ _ c.leave_snapshot.ensures.ends)

pub unreachable-requires : goal.unreachable-requires
unreachable-requires g c = not_pending c.args.self.now.stage c.requires.pending c.in_default.not-Pending
