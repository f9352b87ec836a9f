use Rattle.std.proofs.Common.{◌≡◌, ℕ, List, [], ◌∷◌, ◌++◌, ◌<◌, length, Option, Some, None, IfSome, refl, ap, sym, ◌∙◌, subst, arith}
use Rattle.std.specs.List.{slice_get}
use Rattle.std.proofs.lemmas.List.{length-append}
use Rattle.std.proofs.lemmas.Option.{slice_get-get_or}
use Rattle.erm_report.specs.declared.answer.Answer.{Answer}
use Rattle.erm_script.specs.declared.script.ScriptLine.{ScriptLine}
use Rattle.erm_world.specs.World.{phase_at}
use Rattle.erm_beside.specs.Onward.{onward_itself, onward_then}
use Rattle.erm_lines.specs.Executions.{line_moves}
use Rattle.erm_lines_at_once.specs.Executions.{IsOwnRun}
use Rattle.erm_world.specs.Face.{Grows}
use Rattle.erm_world.specs.World.{View}
use Rattle.erm_worker.specs.Work.{GaveUp, IsReady, RanLine, RanShort, WasLeft}
use Rattle.erm_worker.proofs.Left.{left_before}
use Rattle.erm_worker.proofs.Runs.{line_more, no_lines, stopped_lines}
use Rattle.erm_worker.proofs.Short.{on_err, short_there}
use Rattle.erm_worker.proofs.lines.run_lines.Goals as goal

pub loop-line-init : goal.loop-line-init
loop-line-init g c =
    let seat = g.S.SharedSession.seat c.args.session.now in
    let v = g.S.SharedSession.own c.args.session.now in
    record {
      stands = c.requires.stands;
      onward = onward_itself seat (g.S.SharedSession.ends c.args.session.now);
      ready = c.requires.ready;
      many = ap (λ (xs : List Answer). length xs) c.requires.none;
      room = c.requires.room;
      ran = λ f end. no_lines f seat c.args.lines.now c.args.answers.now.items v c.requires.none;
    }

pub returns-then-not-goes_on-clause-ran : goal.returns-then-not-goes_on-clause-ran
returns-then-not-goes_on-clause-ran g c =
    let seat = g.S.SharedSession.seat c.args.session.now in
    let v = g.S.SharedSession.own c.args.session.now in
    let mid = g.S.SharedSession.seat c.loop-line.session in
    let u = g.S.SharedSession.own c.loop-line.session in
    let so = c.loop-line.invariant in
    let lines = c.args.lines.now in
    let l = c.line-item.result in
    let here : slice_get lines c.loop-line.line-index ≡ Some l = slice_get-get_or lines c.loop-line.line-index l c.loop-line-test.true ∙ ap (λ (x : ScriptLine). Some x) (sym c.line-item.is) in
    let at : slice_get lines (length c.loop-line.answers.items) ≡ Some l = ap (λ (n : ℕ). slice_get lines n) so.many ∙ here in
    let t = g.S.SharedSession.own c.give_up.new.session in
    let gave : GaveUp (phase_at u seat) seat u t = subst (λ (n : ℕ). GaveUp (phase_at u n) n u t) so.onward.seat_is c.give_up.ensures.gave in
    λ f end. stopped_lines f seat lines c.loop-line.answers.items l v u t at (so.ran f (c.give_up.ensures.onward.ends_so f end)) (left_before f seat l u t (phase_at u seat) refl gave)

pub run_line-requires-clause-seat : goal.run_line-requires-clause-seat
run_line-requires-clause-seat g c =
    let seat = g.S.SharedSession.seat c.args.session.now in
    let v = g.S.SharedSession.own c.args.session.now in
    let mid = g.S.SharedSession.seat c.loop-line.session in
    let u = g.S.SharedSession.own c.loop-line.session in
    let so = c.loop-line.invariant in
    let lines = c.args.lines.now in
    let l = c.line-item.result in
    let here : slice_get lines c.loop-line.line-index ≡ Some l = slice_get-get_or lines c.loop-line.line-index l c.loop-line-test.true ∙ ap (λ (x : ScriptLine). Some x) (sym c.line-item.is) in
    let at : slice_get lines (length c.loop-line.answers.items) ≡ Some l = ap (λ (n : ℕ). slice_get lines n) so.many ∙ here in
    c.requires.seat l (c.loop-line.line-index, here) ∙ sym so.onward.seat_is

pub run_line-requires-clause-may : goal.run_line-requires-clause-may
run_line-requires-clause-may g c =
    let seat = g.S.SharedSession.seat c.args.session.now in
    let v = g.S.SharedSession.own c.args.session.now in
    let mid = g.S.SharedSession.seat c.loop-line.session in
    let u = g.S.SharedSession.own c.loop-line.session in
    let so = c.loop-line.invariant in
    let lines = c.args.lines.now in
    let l = c.line-item.result in
    let here : slice_get lines c.loop-line.line-index ≡ Some l = slice_get-get_or lines c.loop-line.line-index l c.loop-line-test.true ∙ ap (λ (x : ScriptLine). Some x) (sym c.line-item.is) in
    let at : slice_get lines (length c.loop-line.answers.items) ≡ Some l = ap (λ (n : ℕ). slice_get lines n) so.many ∙ here in
    c.requires.may l (c.loop-line.line-index, here)

pub returns-in_default-clause-ran : goal.returns-in_default-clause-ran
returns-in_default-clause-ran g c =
    let seat = g.S.SharedSession.seat c.args.session.now in
    let v = g.S.SharedSession.own c.args.session.now in
    let mid = g.S.SharedSession.seat c.loop-line.session in
    let u = g.S.SharedSession.own c.loop-line.session in
    let so = c.loop-line.invariant in
    let lines = c.args.lines.now in
    let l = c.line-item.result in
    let here : slice_get lines c.loop-line.line-index ≡ Some l = slice_get-get_or lines c.loop-line.line-index l c.loop-line-test.true ∙ ap (λ (x : ScriptLine). Some x) (sym c.line-item.is) in
    let at : slice_get lines (length c.loop-line.answers.items) ≡ Some l = ap (λ (n : ℕ). slice_get lines n) so.many ∙ here in
    let t = g.S.SharedSession.own c.run_line.new.session in
    let own : l.session ≡ seat = c.requires.seat l (c.loop-line.line-index, here) in
    λ f end.
    let none : RanLine f l None u t = subst (λ (o : Option Answer). RanLine f l o u t) c.in_default.is (c.in_ok-answer.ensures.ran f end) in
    stopped_lines f seat lines c.loop-line.answers.items l v u t at (so.ran f (c.run_line.ensures.onward.ends_so f end)) (subst (λ (n : ℕ). WasLeft f n (Some l) u t) own none)

pub returns-in_err-answer-clause-short : goal.returns-in_err-answer-clause-short
returns-in_err-answer-clause-short g c =
    let seat = g.S.SharedSession.seat c.args.session.now in
    let v = g.S.SharedSession.own c.args.session.now in
    let mid = g.S.SharedSession.seat c.loop-line.session in
    let u = g.S.SharedSession.own c.loop-line.session in
    let so = c.loop-line.invariant in
    let lines = c.args.lines.now in
    let t = g.S.SharedSession.own c.run_line.new.session in
    let fewer : length c.loop-line.answers.items < length lines = (let many = so.many in let less = c.loop-line-test.true in omega (arith, many, less)) in
    on_err c.from_residual.result ((f : View) → g.S.SharedSession.ends c.run_line.new.session f → RanShort Grows f seat lines c.loop-line.answers.items v t)
    (λ f end.
    let before = c.run_line.ensures.onward.ends_so f end in
    short_there f seat mid lines c.loop-line.answers.items v u t so.onward.seat_is fewer (so.ran f before) (g.met.S.SharedSession.within c.loop-line.session f before) c.in_err-answer.ensures.grown)

pub loop-line-preserved : goal.loop-line-preserved
loop-line-preserved g c =
    let seat = g.S.SharedSession.seat c.args.session.now in
    let v = g.S.SharedSession.own c.args.session.now in
    let mid = g.S.SharedSession.seat c.loop-line.session in
    let u = g.S.SharedSession.own c.loop-line.session in
    let so = c.loop-line.invariant in
    let lines = c.args.lines.now in
    let l = c.line-item.result in
    let here : slice_get lines c.loop-line.line-index ≡ Some l = slice_get-get_or lines c.loop-line.line-index l c.loop-line-test.true ∙ ap (λ (x : ScriptLine). Some x) (sym c.line-item.is) in
    let at : slice_get lines (length c.loop-line.answers.items) ≡ Some l = ap (λ (n : ℕ). slice_get lines n) so.many ∙ here in
    let t = g.S.SharedSession.own c.run_line.new.session in
    let own : l.session ≡ seat = c.requires.seat l (c.loop-line.line-index, here) in
    let added : c.add.new.answers.items ≡ c.loop-line.answers.items ++ c.in-Some.answer ∷ [] = c.add.ensures.added in
    record {
      stands = c.run_line.ensures.stands;
      onward = onward_then seat mid (g.S.SharedSession.seat c.run_line.new.session) (g.S.SharedSession.ends c.args.session.now) (g.S.SharedSession.ends c.loop-line.session) (g.S.SharedSession.ends c.run_line.new.session) so.onward c.run_line.ensures.onward;
      ready = subst (λ (n : ℕ). IsReady t n c.run_line.new.receipt) so.onward.seat_is
          (subst (λ (o : Option Answer). IfSome o (λ _. IsReady t mid c.run_line.new.receipt)) c.in-Some.is c.in_ok-answer.ensures.ready);
      many = (let size = ap (λ (xs : List Answer). length xs) added in omega (arith, size, so.many, length-append c.loop-line.answers.items (c.in-Some.answer ∷ [])));
      room = (let more = c.add.ensures.capacity in let was = so.room in omega (arith, more, was));
      ran = λ f end.
          let did : RanLine f l (Some c.in-Some.answer) u t = subst (λ (o : Option Answer). RanLine f l o u t) c.in-Some.is (c.in_ok-answer.ensures.ran f end) in
          subst (λ (xs : List Answer). IsOwnRun f seat v (line_moves lines xs) t) (sym added)
          (line_more f seat lines c.loop-line.answers.items l c.in-Some.answer v u t at own (c.requires.may l (c.loop-line.line-index, here)).of_session
          (so.ran f (c.run_line.ensures.onward.ends_so f end)) did);
    }
