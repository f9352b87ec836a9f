use Rattle.std.proofs.lemmas.Result.{err_from_is_err_and}
use Rattle.erm_seats.proofs.Raising.{did_begin_safe, raise_held, raise_ready, session_seat}
use Rattle.erm_seats.proofs.snapshots.begin_safe_steps.Goals as goal

pub begin_steps-requires-clause-seat : goal.begin_steps-requires-clause-seat
begin_steps-requires-clause-seat g c = session_seat c.args.who c.requires.session

pub returns-in_err-begin-clause-stopped : goal.returns-in_err-begin-clause-stopped
returns-in_err-begin-clause-stopped g c = let p = err_from_is_err_and c.from_residual.result c.from_residual.ensures.1 in rw (p.1, p.2) c.in_err-begin.ensures.stopped

pub returns-in_err-begin-clause-took_stop : goal.returns-in_err-begin-clause-took_stop
returns-in_err-begin-clause-took_stop g c = let p = err_from_is_err_and c.from_residual.result c.from_residual.ensures.1 in rw (p.1, p.2) c.in_err-begin.ensures.took_stop

pub store_begin-requires-clause-held : goal.store_begin-requires-clause-held
store_begin-requires-clause-held g c =
    raise_held c.args.p.now.me.0.view c.args.who c.requires.session c.requires.idle c.in_ok-begin.begin c.begin_steps.new.p.me.0.view c.in_ok-begin.ensures.begun

pub store_begin-requires-clause-seat : goal.store_begin-requires-clause-seat
store_begin-requires-clause-seat g c = session_seat c.args.who c.requires.session

pub store_begin-requires-clause-ready : goal.store_begin-requires-clause-ready
store_begin-requires-clause-ready g c =
    raise_ready c.args.p.now.me.0.view c.args.who c.requires.session c.requires.idle c.in_ok-begin.begin c.begin_steps.new.p.me.0.view c.in_ok-begin.ensures.begun

pub returns-clause-begun : goal.returns-clause-begun
returns-clause-begun g c =
    did_begin_safe c.args.p.now.me.0.view c.args.who c.requires.session c.requires.idle c.in_ok-begin.begin c.begin_steps.new.p.me.0.view c.in_ok-begin.ensures.begun
    c.store_begin.ensures.told.0 c.store_begin.new.p.me.0.view c.store_begin.ensures.told.1.told

pub returns-clause-took : goal.returns-clause-took
returns-clause-took g c = record {
  begun = c.begin_steps.new.p.me.0;
  begins = c.in_ok-begin.ensures.took;
  word = c.store_begin.ensures.booked.0;
  raises = c.store_begin.ensures.booked.1;
}
