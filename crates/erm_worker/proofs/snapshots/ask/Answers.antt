use Rattle.std.proofs.Common.{None, Some}
use Rattle.erm_model.specs.declared.outcome.Phase.TheVariants.{Pending}
use Rattle.erm_beside.specs.Onward.{onward_then}
use Rattle.erm_worker.proofs.There.{phase_there}
use Rattle.erm_worker.proofs.Watching.{safe_there}
use Rattle.erm_worker.proofs.snapshots.ask.Goals as goal

pub try_safe-requires-clause-pending : goal.try_safe-requires-clause-pending
try_safe-requires-clause-pending g c =
    let seat = g.S.SharedSession.seat c.args.session.now in
    let v = g.S.SharedSession.own c.args.session.now in
    let mid = g.S.SharedSession.seat c.loop.session in
    let u = g.S.SharedSession.own c.loop.session in
    let so = c.loop.invariant in
    phase_there seat mid so.onward.seat_is v u Pending so.passes c.requires.pending

pub returns-in-Some-try_safe-clause-asked : goal.returns-in-Some-try_safe-clause-asked
returns-in-Some-try_safe-clause-asked g c =
    let seat = g.S.SharedSession.seat c.args.session.now in
    let v = g.S.SharedSession.own c.args.session.now in
    let mid = g.S.SharedSession.seat c.loop.session in
    let u = g.S.SharedSession.own c.loop.session in
    let so = c.loop.invariant in
    let t = g.S.SharedSession.own c.try_safe.new.session in
    λ f end. safe_there f seat mid (Some c.in-Some-try_safe.answer) v u t so.onward.seat_is so.passes (c.in-Some-try_safe.ensures.tried f end)

pub returns-then-not-wait-clause-asked : goal.returns-then-not-wait-clause-asked
returns-then-not-wait-clause-asked g c =
    let seat = g.S.SharedSession.seat c.args.session.now in
    let v = g.S.SharedSession.own c.args.session.now in
    let mid = g.S.SharedSession.seat c.loop.session in
    let u = g.S.SharedSession.own c.loop.session in
    let so = c.loop.invariant in
    let t = g.S.SharedSession.own c.try_safe.new.session in
    λ f end. safe_there f seat mid None v u t so.onward.seat_is so.passes (c.in_default.ensures.tried f end)

pub loop-preserved : goal.loop-preserved
loop-preserved g c =
    let seat = g.S.SharedSession.seat c.args.session.now in
    let v = g.S.SharedSession.own c.args.session.now in
    let mid = g.S.SharedSession.seat c.loop.session in
    let u = g.S.SharedSession.own c.loop.session in
    let so = c.loop.invariant in
    let t = g.S.SharedSession.own c.try_safe.new.session in
    let some = g.met.S.SharedSession.some c.args.shared.now c.try_safe.new.session c.try_safe.ensures.stands in
    record {
      stands = c.try_safe.ensures.stands;
      onward = onward_then seat mid (g.S.SharedSession.seat c.try_safe.new.session) (g.S.SharedSession.ends c.args.session.now) (g.S.SharedSession.ends c.loop.session) (g.S.SharedSession.ends c.try_safe.new.session) so.onward c.try_safe.ensures.onward;
      passes = safe_there some.0 seat mid None v u t so.onward.seat_is so.passes (c.in_default.ensures.tried some.0 some.1);
    }
