use Rattle.std.proofs.Common.{sym, ◌∙◌}
use Rattle.erm_session.proofs.Begins.{begun_session, room_idle, stopped_session}
use Rattle.erm_session.proofs.session.Session.begin.Goals as goal
use Rattle.erm_session.proofs.Took.{no_begin}

pub returns-in-Err-clause-stands : goal.returns-in-Err-clause-stands
returns-in-Err-clause-stands g c = stopped_session c.args.self.now _ c.requires.stands c.requires.idle c.in-Err.stop _ c.in-Err.ensures.stopped

pub returns-in-Err-clause-refused : goal.returns-in-Err-clause-refused
returns-in-Err-clause-refused g c = c.begin_stop.ensures.refused _ _ _ c.in-Err.ensures.stopped

pub returns-clause-stands : goal.returns-clause-stands
returns-clause-stands g c =
    begun_session c.args.self.now _ c.requires.stands c.requires.idle c.begin.result _ c.clear.new.self c.clear-2.new.self c.clear-3.new.self c.in-Ok.begin _ c.in-Ok.ensures.begun
    c.begin.ensures.begin c.begin.ensures.number c.begin.ensures.reads c.begin.ensures.claims c.begin.ensures.succ c.begin.ensures.pred
    c.clear.ensures.items c.clear.ensures.capacity c.clear-2.ensures.items c.clear-2.ensures.capacity c.clear-3.ensures

pub returns-in-Err-clause-took_none : goal.returns-in-Err-clause-took_none
returns-in-Err-clause-took_none g c = no_begin g.L.RowLaw.law c.args.self.now.seat c.in-Err.stop c.args.p.now.me.0 c.begin_steps.new.p.me.0 c.begin_stop.result c.begin_stop.ensures.is c.in-Err.ensures.took_stop

pub unreachable-requires : goal.unreachable-requires
unreachable-requires g c = room_idle c.args.self.now.stage c.args.self.now.room c.requires.idle c.requires.stands.kept.room (sym c.take.ensures.value ∙ c.in_default.is)
