use Rattle.std.proofs.Common.{◌≡◌, ℕ, ◌<◌, ◌≤◌, IfErr, ap, refl, sym, subst, ◌∙◌}
use Rattle.std.proofs.lemmas.Result.{err_from_is_err_and}
use Rattle.erm_core.specs.Cores.{core_of}
use Rattle.erm_core_view.specs.Views.{IsQuiet, view_of}
use Rattle.erm_world.specs.declared.stops.SafeStop.{SafeStop}
use Rattle.erm_world.specs.Safe.{DidNotSafe, DidSafe}
use Rattle.erm_world.specs.World.{View}
use Rattle.erm_lists.specs.Snapshots.{is_surveying, next_session}
use Rattle.erm_lists.specs.Stands.{lists_view}
use Rattle.erm_lists.proofs.SafeLooks.{looks_both, looks_none}
use Rattle.erm_lists.proofs.SafeSurveys.{comes_to, pass_falls, passed_surveying, pending_seat, safe_at, safe_done, survey_unseen}
use Rattle.erm_lists.proofs.lists.Lists.safe.Goals as goal

pub loop-next-init : goal.loop-next-init
loop-next-init g c =
    let n = c.args.self.now.sessions in
    let seat = c.args.seat in
    let start = core_of c.args.self.now.state in
    let first = pending_seat n seat start c.requires.stands.quiet c.requires.session c.requires.pending in
    record { stands = c.requires.stands; sessions = refl; session = first.session; looks = looks_none seat start; surveying = ap is_surveying first.at }

pub pass_session-requires-clause-session : goal.pass_session-requires-clause-session
pass_session-requires-clause-session g c = subst (λ (m : ℕ). (0 < c.args.seat) × (c.args.seat ≤ m)) (sym c.loop-next.invariant.sessions) c.requires.session

pub pass_session-requires-clause-at : goal.pass_session-requires-clause-at
pass_session-requires-clause-at g c =
    let now = core_of c.loop-next.self.state in
    comes_to (now.seats c.args.seat).task c.in-Some.next (ap next_session (sym c.task.ensures) ∙ sym c.in-Some.ensures)

pub returns-in_err-pass_session-clause-err : goal.returns-in_err-pass_session-clause-err
returns-in_err-pass_session-clause-err g c =
    let n = c.args.self.now.sessions in
    let seat = c.args.seat in
    let start = core_of c.args.self.now.state in
    let first = pending_seat n seat start c.requires.stands.quiet c.requires.session c.requires.pending in
    let inv = c.loop-next.invariant in
    let now = core_of c.loop-next.self.state in
    let there = comes_to (now.seats seat).task c.in-Some.next (ap next_session (sym c.task.ensures) ∙ sym c.in-Some.ensures) in
    let v = lists_view c.args.self.now in
    let t = lists_view c.pass_session.new.self in
    let same : lists_view c.loop-next.self ≡ v =
    ap (λ (m : ℕ). view_of m now) inv.sessions ∙ survey_unseen n seat first.next c.in-Some.next start now first.session first.active first.at inv.looks there
    in
    let shown = subst (λ (w : View). DidNotSafe w seat c.in_err-pass_session.field-0.0 t) same c.in_err-pass_session.ensures.err in
    let failed = err_from_is_err_and c.from_residual.result c.from_residual.ensures.1 in
    subst (λ r. IfErr r (λ stop. DidNotSafe v seat stop t)) (sym failed.1)
    (subst (λ (stop : SafeStop). DidNotSafe v seat stop t) (sym failed.2) shown)

pub loop-next-smaller : goal.loop-next-smaller
loop-next-smaller g c =
    let seat = c.args.seat in
    let inv = c.loop-next.invariant in
    let now = core_of c.loop-next.self.state in
    let there = comes_to (now.seats seat).task c.in-Some.next (ap next_session (sym c.task.ensures) ∙ sym c.in-Some.ensures) in
    pass_falls now (core_of c.pass_session.new.self.state) seat c.in-Some.next inv.stands.sound.sound there c.in_ok-pass_session.ensures.ok.task_is

pub loop-next-preserved : goal.loop-next-preserved
loop-next-preserved g c =
    let seat = c.args.seat in
    let inv = c.loop-next.invariant in
    let passed = c.in_ok-pass_session.ensures.ok in
    record {
      stands = c.pass_session.ensures.stands;
      sessions = c.pass_session.ensures.sessions ∙ inv.sessions;
      session = inv.session;
      looks = looks_both seat (core_of c.args.self.now.state) (core_of c.loop-next.self.state) (core_of c.pass_session.new.self.state) inv.looks passed.looks;
      surveying = ap is_surveying passed.task_is ∙ passed_surveying c.in-Some.next;
    }

pub returns-clause-ok : goal.returns-clause-ok
returns-clause-ok g c =
    let n = c.args.self.now.sessions in
    let seat = c.args.seat in
    let start = core_of c.args.self.now.state in
    let first = pending_seat n seat start c.requires.stands.quiet c.requires.session c.requires.pending in
    let inv = c.loop-next.invariant in
    let after = core_of c.loop-next.self.state in
    let done = safe_at (after.seats seat).task inv.surveying (ap next_session (sym c.task.ensures) ∙ sym c.in_default.ensures) in
    subst (λ (m : ℕ). DidSafe (lists_view c.args.self.now) seat (view_of m after)) (sym inv.sessions)
    (safe_done n seat first.next start after inv.stands.sound.sound (subst (λ (m : ℕ). IsQuiet m after) inv.sessions inv.stands.quiet) first.session first.active first.at inv.looks done)
