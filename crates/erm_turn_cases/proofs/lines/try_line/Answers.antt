use Rattle.std.proofs.Common.{◌≡◌, ℕ, true, false, Option, Some, None, sym, ap, ◌∙◌, subst}
use Rattle.std.proofs.lemmas.Result.{IfOk-weaker}
use Rattle.erm_report.specs.declared.answer.Answer.{Answer}
use Rattle.erm_world.specs.World.{View, phase_at}
use Rattle.erm_good_report.specs.Phases.{refusal_of}
use Rattle.erm_lines.specs.Whole.{is_snapshot}
use Rattle.erm_lines.proofs.Watched.{no_snapshot, snapshot_there}
use Rattle.erm_turn_cases.specs.Turns.{IsRunNow, WasRun, WasTried, WasWatched}
use Rattle.erm_turn_cases.proofs.Kept.{on_ok_of}
use Rattle.erm_turn_cases.proofs.Watching.{plain_run, refused_run, watched_now, watched_run}
use Rattle.erm_turn_cases.proofs.lines.try_line.Goals as goal

pub returns-in-Some-clause-did : goal.returns-in-Some-clause-did
returns-in-Some-clause-did g c =
    let seat = g.S.SharedSession.seat c.args.session.now in
    let v = g.S.SharedSession.own c.args.session.now in
    let l = c.args.line.now in
    let so : refusal_of (phase_at v seat) l.command ≡ Some c.in-Some.refusal = cc in
    refused_run (g.S.SharedSession.ends c.args.session.now) l c.in-Some.refusal v (ap (λ (n : ℕ). refusal_of (phase_at v n) l.command) (sym c.requires.seat) ∙ so)

-- WITH A SNAPSHOT
pub try_watch-requires-clause-snapshot : goal.try_watch-requires-clause-snapshot
try_watch-requires-clause-snapshot g c =
    snapshot_there (g.S.SharedSession.own c.args.session.now) (g.S.SharedSession.seat c.args.session.now)
    (ap is_snapshot (sym c.phase-phase.ensures) ∙ sym c.has_snapshot.ensures ∙ c.if-has_snapshot.true)

pub returns-then-has_snapshot-clause-ran : goal.returns-then-has_snapshot-clause-ran
returns-then-has_snapshot-clause-ran g c =
    let seat = g.S.SharedSession.seat c.args.session.now in
    let v = g.S.SharedSession.own c.args.session.now in
    let after = c.try_watch.new.session in
    let t = g.S.SharedSession.own after in
    let some = g.met.S.SharedSession.some c.args.shared.now after c.try_watch.ensures.stands in
    on_ok_of c.try_watch.result (λ (tried : Option Answer). (f : View) → g.S.SharedSession.ends after f → WasWatched f seat c.args.line.now.command tried v t)
    (IsRunNow t (g.S.SharedSession.seat after))
    (λ tried was. subst (λ (n : ℕ). IsRunNow t n) (sym c.try_watch.ensures.onward.seat_is) (watched_now some.0 seat c.args.line.now.command tried v t c.requires.ran (was some.0 some.1)))
    c.try_watch.ensures.watched

pub returns-then-has_snapshot-clause-did : goal.returns-then-has_snapshot-clause-did
returns-then-has_snapshot-clause-did g c =
    let seat = g.S.SharedSession.seat c.args.session.now in
    let v = g.S.SharedSession.own c.args.session.now in
    let l = c.args.line.now in
    let after = c.try_watch.new.session in
    let t = g.S.SharedSession.own after in
    let has : is_snapshot (phase_at v seat) ≡ true = ap is_snapshot (sym c.phase-phase.ensures) ∙ sym c.has_snapshot.ensures ∙ c.if-has_snapshot.true in
    let so : refusal_of (phase_at v seat) l.command ≡ None = cc in
    IfOk-weaker c.try_watch.result (λ (tried : Option Answer). (f : View) → g.S.SharedSession.ends after f → WasWatched f seat l.command tried v t)
    (λ (tried : Option Answer). WasRun (g.S.SharedSession.ends after) l tried v t)
    (λ tried was. watched_run (g.S.SharedSession.ends after) l seat tried v t c.requires.seat has so was) c.try_watch.ensures.watched

-- WITHOUT ONE
pub run-requires-clause-plain : goal.run-requires-clause-plain
run-requires-clause-plain g c =
    no_snapshot (phase_at (g.S.SharedSession.own c.args.session.now) (g.S.SharedSession.seat c.args.session.now))
    (ap is_snapshot (sym c.phase-phase.ensures) ∙ sym c.has_snapshot.ensures ∙ c.if-has_snapshot.false)

pub returns-clause-did : goal.returns-clause-did
returns-clause-did g c =
    let seat = g.S.SharedSession.seat c.args.session.now in
    let v = g.S.SharedSession.own c.args.session.now in
    let l = c.args.line.now in
    let after = c.run.new.session in
    let t = g.S.SharedSession.own after in
    let none : is_snapshot (phase_at v seat) ≡ false = ap is_snapshot (sym c.phase-phase.ensures) ∙ sym c.has_snapshot.ensures ∙ c.if-has_snapshot.false in
    let so : refusal_of (phase_at v seat) l.command ≡ None = cc in
    IfOk-weaker c.run.result (λ (tried : Option Answer). (f : View) → g.S.SharedSession.ends after f → WasTried f seat l.command tried v t)
    (λ (tried : Option Answer). WasRun (g.S.SharedSession.ends after) l tried v t)
    (λ tried was. plain_run (g.S.SharedSession.ends after) l seat tried v t c.requires.seat (no_snapshot (phase_at v seat) none) so was) c.run.ensures.tried
