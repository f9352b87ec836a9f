use Rattle.std.proofs.Common.{Option, subst}
use Rattle.erm_report.specs.declared.answer.Answer.{Answer}
use Rattle.erm_world.specs.World.{View}
use Rattle.erm_beside.specs.Onward.{onward_then}
use Rattle.erm_lines_at_once.specs.Operations.{TriedOnce}
use Rattle.erm_worker.proofs.Asked.{one_try_more, operated, still_active, waits_still}
use Rattle.erm_worker.proofs.There.{grows_there, runs_back}
use Rattle.erm_worker.proofs.operations.operate.Goals as goal

pub returns-in_err-answer-clause-grows : goal.returns-in_err-answer-clause-grows
returns-in_err-answer-clause-grows g c =
    let seat = g.S.SharedSession.seat c.args.session.now in
    let v = g.S.SharedSession.own c.args.session.now in
    let mid = g.S.SharedSession.seat c.loop.session in
    let u = g.S.SharedSession.own c.loop.session in
    let so = c.loop.invariant in
    let t = g.S.SharedSession.own c.try_once.new.session in
    grows_there seat mid so.onward.seat_is v u t so.grows c.try_once.ensures.grows

pub returns-in-Some-2-clause-grows : goal.returns-in-Some-2-clause-grows
returns-in-Some-2-clause-grows g c =
    let seat = g.S.SharedSession.seat c.args.session.now in
    let v = g.S.SharedSession.own c.args.session.now in
    let mid = g.S.SharedSession.seat c.loop.session in
    let u = g.S.SharedSession.own c.loop.session in
    let so = c.loop.invariant in
    let t = g.S.SharedSession.own c.try_once.new.session in
    grows_there seat mid so.onward.seat_is v u t so.grows c.try_once.ensures.grows

pub returns-in-Some-2-clause-asked : goal.returns-in-Some-2-clause-asked
returns-in-Some-2-clause-asked g c =
    let seat = g.S.SharedSession.seat c.args.session.now in
    let v = g.S.SharedSession.own c.args.session.now in
    let mid = g.S.SharedSession.seat c.loop.session in
    let u = g.S.SharedSession.own c.loop.session in
    let so = c.loop.invariant in
    let t = g.S.SharedSession.own c.try_once.new.session in
    λ f end. operated f seat mid so.onward.seat_is c.args.command.now v u t c.in-Some-2.answer c.requires.named (so.tried f (c.try_once.ensures.onward.ends_so f end))
    (subst (λ (o : Option Answer). TriedOnce f mid c.args.command.now o u t) c.in-Some-2.is (c.in_ok-answer.ensures.tried f end))

pub returns-then-not-wait-clause-grows : goal.returns-then-not-wait-clause-grows
returns-then-not-wait-clause-grows g c =
    let seat = g.S.SharedSession.seat c.args.session.now in
    let v = g.S.SharedSession.own c.args.session.now in
    let mid = g.S.SharedSession.seat c.loop.session in
    let u = g.S.SharedSession.own c.loop.session in
    let so = c.loop.invariant in
    let t = g.S.SharedSession.own c.try_once.new.session in
    grows_there seat mid so.onward.seat_is v u t so.grows c.try_once.ensures.grows

pub returns-then-not-wait-clause-asked : goal.returns-then-not-wait-clause-asked
returns-then-not-wait-clause-asked g c =
    let seat = g.S.SharedSession.seat c.args.session.now in
    let v = g.S.SharedSession.own c.args.session.now in
    let mid = g.S.SharedSession.seat c.loop.session in
    let u = g.S.SharedSession.own c.loop.session in
    let so = c.loop.invariant in
    let t = g.S.SharedSession.own c.try_once.new.session in
    λ f end. waits_still f seat mid so.onward.seat_is c.args.command.now v u t c.requires.active so.active (so.tried f (c.try_once.ensures.onward.ends_so f end))
    (subst (λ (o : Option Answer). TriedOnce f mid c.args.command.now o u t) c.in_default.is (c.in_ok-answer.ensures.tried f end))

pub loop-preserved : goal.loop-preserved
loop-preserved g c =
    let seat = g.S.SharedSession.seat c.args.session.now in
    let v = g.S.SharedSession.own c.args.session.now in
    let mid = g.S.SharedSession.seat c.loop.session in
    let u = g.S.SharedSession.own c.loop.session in
    let so = c.loop.invariant in
    let t = g.S.SharedSession.own c.try_once.new.session in
    let some = g.met.S.SharedSession.some c.args.shared.now c.try_once.new.session c.try_once.ensures.stands in
    let once = λ (f : View) (end : g.S.SharedSession.ends c.try_once.new.session f). subst (λ (o : Option Answer). TriedOnce f mid c.args.command.now o u t) c.in_default.is (c.in_ok-answer.ensures.tried f end) in
    record {
      stands = c.try_once.ensures.stands;
      onward = onward_then seat mid (g.S.SharedSession.seat c.try_once.new.session) (g.S.SharedSession.ends c.args.session.now) (g.S.SharedSession.ends c.loop.session) (g.S.SharedSession.ends c.try_once.new.session) so.onward c.try_once.ensures.onward;
      active = still_active some.0 seat mid so.onward.seat_is c.args.command.now v u t so.active (once some.0 some.1);
      grows = grows_there seat mid so.onward.seat_is v u t so.grows c.try_once.ensures.grows;
      ran = runs_back seat mid so.onward.seat_is t c.in_ok-answer.ensures.ran;
      tried = λ f end. one_try_more f seat mid so.onward.seat_is c.args.command.now v u t (so.tried f (c.try_once.ensures.onward.ends_so f end)) (once f end);
    }
