use Rattle.std.proofs.lemmas.Result.{err_from_is_err_and}
use Rattle.erm_rule.proofs.Wents.{went_goes, went_more, went_none}
use Rattle.erm_seats.proofs.Surveying.{active_there, begin_there, did_survey, looks_there, session_there, stop_met_after, stop_took_after, stops_there, survey_goes_on, survey_starts}
use Rattle.erm_seats.proofs.snapshots.survey.Goals as goal

pub loop-seat-init : goal.loop-seat-init
loop-seat-init g c = (
  c.requires.fits,
  survey_starts c.args.p.now.me.0.view c.args.who c.args.from c.args.begin c.requires.known c.requires.active c.requires.surveys c.requires.session c.requires.begin,
  went_none _ _ _ _,
)

pub pass_session-requires-clause-active : goal.pass_session-requires-clause-active
pass_session-requires-clause-active g c =
    active_there c.args.p.now.me.0.view c.args.who c.args.from c.args.begin c.requires.known c.requires.active c.requires.surveys c.requires.session c.requires.begin c.loop-seat.p.me.0.view c.loop-seat.seat
    c.loop-seat-test.true c.loop-seat.invariant.1

pub pass_session-requires-clause-surveys : goal.pass_session-requires-clause-surveys
pass_session-requires-clause-surveys g c =
    looks_there c.args.p.now.me.0.view c.args.who c.args.from c.args.begin c.requires.known c.requires.active c.requires.surveys c.requires.session c.requires.begin c.loop-seat.p.me.0.view c.loop-seat.seat
    c.loop-seat-test.true c.loop-seat.invariant.1

pub pass_session-requires-clause-session : goal.pass_session-requires-clause-session
pass_session-requires-clause-session g c =
    session_there c.args.p.now.me.0.view c.args.who c.args.from c.args.begin c.requires.known c.requires.active c.requires.surveys c.requires.session c.requires.begin c.loop-seat.p.me.0.view c.loop-seat.seat
    c.loop-seat-test.true c.loop-seat.invariant.1

pub pass_session-requires-clause-begin : goal.pass_session-requires-clause-begin
pass_session-requires-clause-begin g c =
    begin_there c.args.p.now.me.0.view c.args.who c.args.from c.args.begin c.requires.known c.requires.active c.requires.surveys c.requires.session c.requires.begin c.loop-seat.p.me.0.view c.loop-seat.seat
    c.loop-seat-test.true c.loop-seat.invariant.1

pub loop-seat-preserved : goal.loop-seat-preserved
loop-seat-preserved g c = (
  c.pass_session.ensures.fits,
  survey_goes_on c.args.p.now.me.0.view c.args.who c.args.from c.args.begin c.requires.known c.requires.active c.requires.surveys c.requires.session c.requires.begin c.loop-seat.p.me.0.view c.loop-seat.seat
      c.loop-seat-test.true c.loop-seat.invariant.1 c.pass_session.new.p.me.0.view c.in_ok-pass_session.ensures.passed,
  went_more _ _ _ _ _ _ c.loop-seat.invariant.2 c.pass_session.ensures.loads,
)

pub returns-in_err-pass_session-clause-stopped : goal.returns-in_err-pass_session-clause-stopped
returns-in_err-pass_session-clause-stopped g c =
    let p = err_from_is_err_and c.from_residual.result c.from_residual.ensures.1 in
    rw (p.1, p.2)
    (stops_there c.args.p.now.me.0.view c.args.who c.args.from c.args.begin c.requires.known c.requires.active c.requires.surveys c.requires.session c.requires.begin c.loop-seat.p.me.0.view c.loop-seat.seat
    c.loop-seat-test.true c.loop-seat.invariant.1 _ c.pass_session.new.p.me.0.view c.in_err-pass_session.ensures.stopped)

pub returns-in_err-pass_session-clause-met : goal.returns-in_err-pass_session-clause-met
returns-in_err-pass_session-clause-met g c =
    let p = err_from_is_err_and c.from_residual.result c.from_residual.ensures.1 in
    rw (p.1, p.2) (stop_met_after c.args.p.now.me.0 _ _ _ (went_goes _ _ _ _ _ c.loop-seat.invariant.2) c.in_err-pass_session.ensures.met)

pub returns-in_err-pass_session-clause-loads : goal.returns-in_err-pass_session-clause-loads
returns-in_err-pass_session-clause-loads g c = went_more _ _ _ _ _ _ c.loop-seat.invariant.2 c.pass_session.ensures.loads

pub returns-in_err-pass_session-clause-took_none : goal.returns-in_err-pass_session-clause-took_none
returns-in_err-pass_session-clause-took_none g c =
    let p = err_from_is_err_and c.from_residual.result c.from_residual.ensures.1 in
    rw (p.1, p.2) (stop_took_after _ _ _ _ _ _ c.loop-seat.invariant.2 c.in_err-pass_session.ensures.took_none)

pub returns-clause-safe : goal.returns-clause-safe
returns-clause-safe g c =
    did_survey c.args.p.now.me.0.view c.args.who c.args.from c.args.begin c.requires.known c.requires.active c.requires.surveys c.requires.session c.requires.begin c.loop-seat.p.me.0.view c.loop-seat.seat
    c.loop-seat-test.false c.loop-seat.invariant.1

pub returns-clause-loads : goal.returns-clause-loads
returns-clause-loads g c = c.loop-seat.invariant.2
