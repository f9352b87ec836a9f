use Rattle.erm_worker.proofs.There.{settled_there}
use Rattle.erm_worker.proofs.ends.settle.Goals as goal

pub returns-in-Ok-clause-settled : goal.returns-in-Ok-clause-settled
returns-in-Ok-clause-settled g c =
    let seat = g.S.SharedSession.seat c.args.session.now in
    let v = g.S.SharedSession.own c.args.session.now in
    let mid = g.S.SharedSession.seat c.loop.session in
    let u = g.S.SharedSession.own c.loop.session in
    let so = c.loop.invariant in
    let t = g.S.SharedSession.own c.decide.new.session in
    settled_there seat mid so.onward.seat_is v u t c.in-Ok.answer so.passes c.in-Ok.ensures.closes c.in-Ok.ensures.ok
