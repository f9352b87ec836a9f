use Rattle.std.proofs.Common.{MatchOption, None, Some, Bor, sym, subst}
use Rattle.erm_model.specs.declared.outcome.Receipt.{Receipt}
use Rattle.erm_world.specs.World.{Session}
use Rattle.erm_lines.specs.Answers.{IsReceiptOf}
use Rattle.erm_beside.specs.Onward.{onward_then}
use Rattle.erm_worker.specs.Work.{asked}
use Rattle.erm_worker.proofs.There.{durable_same, durable_there, durable_waits, same_there}
use Rattle.erm_worker.proofs.ends.durable.Goals as goal

pub try_durable-requires-clause-receipt : goal.try_durable-requires-clause-receipt
try_durable-requires-clause-receipt g c =
    let seat = g.S.SharedSession.seat c.args.session.now in
    let v = g.S.SharedSession.own c.args.session.now in
    let mid = g.S.SharedSession.seat c.loop.session in
    let u = g.S.SharedSession.own c.loop.session in
    let so = c.loop.invariant in
    subst (λ (s : Session). MatchOption c.args.receipt (IsReceiptOf s.over None) (λ (r : Bor Receipt). IsReceiptOf s.over (Some r.now))) (sym (same_there seat mid so.onward.seat_is v u so.passes)) c.requires.receipt

pub returns-in-Some-try_durable-clause-asked : goal.returns-in-Some-try_durable-clause-asked
returns-in-Some-try_durable-clause-asked g c =
    let seat = g.S.SharedSession.seat c.args.session.now in
    let v = g.S.SharedSession.own c.args.session.now in
    let mid = g.S.SharedSession.seat c.loop.session in
    let u = g.S.SharedSession.own c.loop.session in
    let so = c.loop.invariant in
    let t = g.S.SharedSession.own c.try_durable.new.session in
    λ f. durable_there seat mid so.onward.seat_is v u f t c.in-Some-try_durable.answer so.passes (c.in-Some-try_durable.ensures.tried f)

pub returns-in-Some-try_durable-clause-same : goal.returns-in-Some-try_durable-clause-same
returns-in-Some-try_durable-clause-same g c =
    let seat = g.S.SharedSession.seat c.args.session.now in
    let v = g.S.SharedSession.own c.args.session.now in
    let mid = g.S.SharedSession.seat c.loop.session in
    let u = g.S.SharedSession.own c.loop.session in
    let so = c.loop.invariant in
    let t = g.S.SharedSession.own c.try_durable.new.session in
    durable_same seat mid so.onward.seat_is v u v t c.in-Some-try_durable.answer so.passes (c.in-Some-try_durable.ensures.tried v)

pub returns-then-not-wait-clause-asked : goal.returns-then-not-wait-clause-asked
returns-then-not-wait-clause-asked g c =
    let seat = g.S.SharedSession.seat c.args.session.now in
    let v = g.S.SharedSession.own c.args.session.now in
    let mid = g.S.SharedSession.seat c.loop.session in
    let u = g.S.SharedSession.own c.loop.session in
    let so = c.loop.invariant in
    let t = g.S.SharedSession.own c.try_durable.new.session in
    λ f. asked (durable_waits seat mid so.onward.seat_is v u f t so.passes (c.in_default.ensures.tried f))

pub returns-then-not-wait-clause-same : goal.returns-then-not-wait-clause-same
returns-then-not-wait-clause-same g c =
    let seat = g.S.SharedSession.seat c.args.session.now in
    let v = g.S.SharedSession.own c.args.session.now in
    let mid = g.S.SharedSession.seat c.loop.session in
    let u = g.S.SharedSession.own c.loop.session in
    let so = c.loop.invariant in
    let t = g.S.SharedSession.own c.try_durable.new.session in
    (durable_waits seat mid so.onward.seat_is v u v t so.passes (c.in_default.ensures.tried v)).own

pub loop-preserved : goal.loop-preserved
loop-preserved g c =
    let seat = g.S.SharedSession.seat c.args.session.now in
    let v = g.S.SharedSession.own c.args.session.now in
    let mid = g.S.SharedSession.seat c.loop.session in
    let u = g.S.SharedSession.own c.loop.session in
    let so = c.loop.invariant in
    let t = g.S.SharedSession.own c.try_durable.new.session in
    record {
      stands = c.try_durable.ensures.stands;
      onward = onward_then seat mid (g.S.SharedSession.seat c.try_durable.new.session) (g.S.SharedSession.ends c.args.session.now) (g.S.SharedSession.ends c.loop.session) (g.S.SharedSession.ends c.try_durable.new.session) so.onward c.try_durable.ensures.onward;
      passes = durable_waits seat mid so.onward.seat_is v u v t so.passes (c.in_default.ensures.tried v);
    }
