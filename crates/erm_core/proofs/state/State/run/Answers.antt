use Rattle.std.proofs.Common.{ℕ, ◌≡◌, ◌+◌, ◌<◌, List, [], ◌∷◌, ◌++◌, take, get_or, length, refl, ap, ◌∙◌, sym}
use Rattle.std.proofs.lemmas.List.{take_more}
use Rattle.erm_machine.specs.declared.event.Answer.{Answer}
use Rattle.erm_machine.specs.declared.event.Event.{Event}
use Rattle.erm_machine.specs.Core.{Core}
use Rattle.erm_machine.specs.Step.{core_step, run_from}
use Rattle.erm_core.proofs.state.State.run.Goals as goal

run_from-push : (c : Core) (es : List Event) (e : Event) → run_from c (es ++ e ∷ []) ≡ (core_step (run_from c es) e).1
run_from-push c [] e = refl
run_from-push c (f ∷ es) e = run_from-push (core_step c f).1 es e

next : (c0 c1 d : Core) (es : List Event) (i : ℕ) (e : Event) (a : Answer) → i < length es → c1 ≡ run_from c0 (take i es) → ◌≡◌ {A = Answer × Core} (a, d) (core_step c1 (get_or es i e)) →
    d ≡ run_from c0 (take (i + 1) es)
next c0 c1 d es i e a within inv step =
    ap (λ (r : Answer × Core). r.1) step ∙ ap (λ (c : Core). (core_step c (get_or es i e)).1) inv
    ∙ sym (run_from-push c0 (take i es) (get_or es i e)) ∙ ap (λ (fs : List Event). run_from c0 fs) (sym (take_more es i e within))

pub loop-event-preserved : goal.loop-event-preserved
loop-event-preserved c =
    (next _ _ _ c.args.events.now c.loop-event.event-index _ _ c.loop-event-test.true c.loop-event.invariant.0 c.in_ok-take.ensures.step, c.take.ensures.sound)
