use Rattle.erm_session.proofs.Begins.{stopped_session}
use Rattle.erm_session.proofs.Snapshots.{pending_session}
use Rattle.erm_session.proofs.Took.{no_begin}
use Rattle.erm_session.proofs.session.Session.begin_safe.Goals as goal

pub returns-in-Err-clause-stands : goal.returns-in-Err-clause-stands
returns-in-Err-clause-stands g c = stopped_session c.args.self.now _ c.requires.stands c.requires.idle c.in-Err.stop _ c.in-Err.ensures.stopped

pub returns-in-Err-clause-refused : goal.returns-in-Err-clause-refused
returns-in-Err-clause-refused g c = c.begin_stop.ensures.refused _ _ _ c.in-Err.ensures.stopped

pub returns-in-Err-clause-took_none : goal.returns-in-Err-clause-took_none
returns-in-Err-clause-took_none g c =
    no_begin g.L.RowLaw.law c.args.self.now.seat c.in-Err.stop c.args.p.now.me.0 c.begin_safe_steps.new.p.me.0 c.begin_stop.result c.begin_stop.ensures.is c.in-Err.ensures.took_stop

pub returns-clause-stands : goal.returns-clause-stands
returns-clause-stands g c =
    pending_session c.args.self.now _ c.requires.stands c.requires.idle c.clear.new.self c.clear-2.new.self c.in-Ok.begin _ c.in-Ok.ensures.begun
    c.clear.ensures.items c.clear.ensures.capacity c.clear-2.ensures.items c.clear-2.ensures.capacity
