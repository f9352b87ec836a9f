use Rattle.std.proofs.Common.{◌≡◌, true, Option, Some, None, IfSome, sym, ap, ◌∙◌, subst}
use Rattle.std.proofs.lemmas.Result.{IfOk-weaker}
use Rattle.erm_report.specs.declared.answer.Answer.{Answer}
use Rattle.erm_world.specs.World.{View, phase_at}
use Rattle.erm_good_report.specs.Phases.{refusal_of}
use Rattle.erm_lines.specs.Whole.{is_snapshot}
use Rattle.erm_lines.proofs.Watched.{no_snapshot, snapshot_there}
use Rattle.erm_worker.specs.Work.{IsReady, RanLine, WasAsked, WasWatched}
use Rattle.erm_worker.proofs.Ready.{answered_line, left_line, looked_ready, refused_line, same_grown, watched_line}
use Rattle.erm_worker.proofs.line.run_line.Goals as goal

pub returns-in-Some-clause-ran : goal.returns-in-Some-clause-ran
returns-in-Some-clause-ran g c =
    let seat = g.S.SharedSession.seat c.args.session.now in
    let v = g.S.SharedSession.own c.args.session.now in
    let so : refusal_of (phase_at v seat) c.args.line.now.command ≡ Some c.in-Some.refusal = cc in
    λ f end. refused_line f c.args.line.now c.in-Some.refusal seat v c.requires.seat so

-- WITH A SNAPSHOT
pub watch-requires-clause-snapshot : goal.watch-requires-clause-snapshot
watch-requires-clause-snapshot g c =
    snapshot_there (g.S.SharedSession.own c.args.session.now) (g.S.SharedSession.seat c.args.session.now)
    (ap is_snapshot (sym c.phase-phase.ensures) ∙ sym c.has_snapshot.ensures ∙ c.if-has_snapshot.true)

pub returns-then-has_snapshot-clause-ran : goal.returns-then-has_snapshot-clause-ran
returns-then-has_snapshot-clause-ran g c =
    let seat = g.S.SharedSession.seat c.args.session.now in
    let v = g.S.SharedSession.own c.args.session.now in
    let l = c.args.line.now in
    let after = c.watch.new.session in
    let t = g.S.SharedSession.own after in
    let has : is_snapshot (phase_at v seat) ≡ true = ap is_snapshot (sym c.phase-phase.ensures) ∙ sym c.has_snapshot.ensures ∙ c.if-has_snapshot.true in
    let so : refusal_of (phase_at v seat) l.command ≡ None = cc in
    IfOk-weaker c.watch.result (λ (answered : Option Answer). (f : View) → g.S.SharedSession.ends after f → WasWatched f seat l.command answered v t)
    (λ (answered : Option Answer). (f : View) → g.S.SharedSession.ends after f → RanLine f l answered v t)
    (λ answered was f end. watched_line f l answered seat v t c.requires.seat has so (was f end)) c.watch.ensures.watched

pub returns-then-has_snapshot-clause-ready : goal.returns-then-has_snapshot-clause-ready
returns-then-has_snapshot-clause-ready g c =
    let seat = g.S.SharedSession.seat c.args.session.now in
    let v = g.S.SharedSession.own c.args.session.now in
    let l = c.args.line.now in
    let after = c.watch.new.session in
    let t = g.S.SharedSession.own after in
    let some = g.met.S.SharedSession.some c.args.shared.now after c.watch.ensures.stands in
    IfOk-weaker c.watch.result (λ (answered : Option Answer). (f : View) → g.S.SharedSession.ends after f → WasWatched f seat l.command answered v t)
    (λ (answered : Option Answer). IfSome answered (λ _. IsReady t seat c.args.receipt.now))
    (λ answered was. looked_ready some.0 seat l.command answered v t c.args.receipt.now c.requires.ready (was some.0 some.1)) c.watch.ensures.watched

pub returns-then-has_snapshot-clause-grown : goal.returns-then-has_snapshot-clause-grown
returns-then-has_snapshot-clause-grown g c =
    let seat = g.S.SharedSession.seat c.args.session.now in
    same_grown c.watch.result ((g.S.SharedSession.own c.args.session.now).session seat) ((g.S.SharedSession.own c.watch.new.session).session seat) c.watch.ensures.same

-- WITHOUT ONE
pub run-requires-clause-plain : goal.run-requires-clause-plain
run-requires-clause-plain g c =
    no_snapshot (phase_at (g.S.SharedSession.own c.args.session.now) (g.S.SharedSession.seat c.args.session.now))
    (ap is_snapshot (sym c.phase-phase.ensures) ∙ sym c.has_snapshot.ensures ∙ c.if-has_snapshot.false)

pub returns-in_default-2-clause-ran : goal.returns-in_default-2-clause-ran
returns-in_default-2-clause-ran g c =
    let seat = g.S.SharedSession.seat c.args.session.now in
    let v = g.S.SharedSession.own c.args.session.now in
    let u = g.S.SharedSession.own c.run.new.session in
    λ f end. left_line f c.args.line.now seat (g.S.SharedSession.seat c.run.new.session) v u (g.S.SharedSession.own c.give_up.new.session) c.requires.seat c.run.ensures.onward.seat_is
    (subst (λ (o : Option Answer). WasAsked f seat c.args.line.now.command o v u) c.in_default-2.is (c.in_ok-answer.ensures.asked f (c.give_up.ensures.onward.ends_so f end))) c.give_up.ensures.gave

pub returns-clause-ran : goal.returns-clause-ran
returns-clause-ran g c =
    let seat = g.S.SharedSession.seat c.args.session.now in
    let v = g.S.SharedSession.own c.args.session.now in
    let t = g.S.SharedSession.own c.run.new.session in
    let so : refusal_of (phase_at v seat) c.args.line.now.command ≡ None = cc in
    λ f end. answered_line f c.args.line.now c.in-Some-2.answer seat v t c.requires.seat
    (no_snapshot (phase_at v seat) (ap is_snapshot (sym c.phase-phase.ensures) ∙ sym c.has_snapshot.ensures ∙ c.if-has_snapshot.false)) so
    (subst (λ (o : Option Answer). WasAsked f seat c.args.line.now.command o v t) c.in-Some-2.is (c.in_ok-answer.ensures.asked f end))
