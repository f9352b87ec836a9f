use Rattle.std.proofs.Common.{◌≡◌, ◌+◌, List, length, slice_set, Option, None, Some, Ok, Err, IfErr, Vec, refl, sym, ap, ◌∙◌, subst}
use Rattle.std.specs.Prelude.{Result}
use Rattle.std.specs.declared.alloc.Global.{Global}
use Rattle.erm_model.specs.declared.outcome.Phase.TheVariants as phase
use Rattle.erm_report.specs.declared.answer.Answer.{Answer}
use Rattle.erm_world.specs.declared.stops.Wait.{Wait}
use Rattle.erm_world.specs.Calls.{DidNotSettle}
use Rattle.erm_lines.specs.Executions.{DidEnd}
use Rattle.std.proofs.lemmas.List.{length-set}
use Rattle.erm_node.specs.Sound.{sound_law}
use Rattle.erm_world.specs.World.{phase_at}
use Rattle.erm_world.proofs.Serial.{serializable_too}
use Rattle.erm_crash.specs.Kept.{LeavesLog}
use Rattle.erm_told.proofs.Lines.{turn_end}
use Rattle.erm_log_run.specs.Closing.{IsClosing}
use Rattle.erm_log_run.proofs.Closing.{closed_too}
use Rattle.erm_log_run.proofs.Leaving.{leaves_itself, leaves_then, turn_leaves}
use Rattle.erm_log_run.proofs.Passing.{end_leaves, none_passed, passed_closed, passed_waits}
use Rattle.erm_log_run.proofs.closes.close_open.Goals as goal
use Rattle.erm_log_run.proofs.closes.close_open.Goals.{in-Ok, in_default-close_session}

pub loop-place-init : goal.loop-place-init
loop-place-init g c = (c.requires.stands, c.requires.ends, none_passed (g.W.RowWorld.view c.args.world.now), (λ v is. is), leaves_itself (g.W.RowWorld.view c.args.world.now))

-- a result that isn't `Ok`
stopped : (r : Result Answer Wait) (P : Wait → Type 0) → IfErr r P → ((a : Answer) → r ≡ Ok a → ⊥) → (stop : Wait) × P stop
stopped (Ok a) P so none = absurd (none a refl)
stopped (Err stop) P so none = (stop, so)

pub loop-place-preserved : goal.loop-place-preserved
loop-place-preserved g c =
    let first = g.W.RowWorld.view c.args.world.now in
    let before = g.W.RowWorld.view c.loop-place.world in
    let after = g.W.RowWorld.view c.close_session.new.world in
    let n = c.args.sessions in
    let k = c.loop-place.place in
    let kept = c.loop-place.invariant in
    let busy : phase_at before (k + 1) ≡ phase.Idle → ⊥ = λ idle. c.in_default.not-Idle (c.phase.ensures ∙ idle) in
    elim c.match-close_session.branch [
      | in-Ok w ↦
          let a = w.in-Ok.answer in
          let did : DidEnd before (k + 1) a after = w.in-Ok.ensures.closed in
          let serial = serializable_too g.W.RowWorld.law sound_law after c.requires.law (g.met.W.RowWorld.serializable c.close_session.new.world c.close_session.ensures.stands) in
          let ends : c.match-close_session.ends.items ≡ slice_set c.loop-place.ends.items k (Some a) = ap (λ (xs : Vec (Option Answer) Global). xs.items) w.ends-is ∙ w.note.ensures in (
            c.close_session.ensures.stands,
            ap (λ (xs : List (Option Answer)). length xs) ends ∙ length-set c.loop-place.ends.items k (Some a) ∙ kept.1,
            passed_closed first before after k kept.2 busy (end_leaves before after (k + 1) a did),
            (λ v is. subst (λ (xs : List (Option Answer)). IsClosing v n xs after) (sym ends) (closed_too v before after n k a c.loop-place.ends.items (kept.3 v is) c.loop-place-test.true busy did serial)),
            leaves_then first before after kept.4 (turn_leaves before after (k + 1) None a (turn_end before (k + 1) a after did) (c.lines_leave_the_log.ensures.closes before after (k + 1) a did)),
          )
      | in_default-close_session w ↦
          let why = stopped c.close_session.result (λ stop. DidNotSettle before (k + 1) stop after) c.close_session.ensures.waits w.in_default-close_session.not-Ok in
          let same : after ≡ before = why.1.0 in
          let ends : c.match-close_session.ends.items ≡ c.loop-place.ends.items = ap (λ (xs : Vec (Option Answer) Global). xs.items) w.ends-is in (
            c.close_session.ensures.stands,
            ap (λ (xs : List (Option Answer)). length xs) ends ∙ kept.1,
            passed_waits first before after k c.requires.up kept.2 why.0 why.1,
            (λ v is. subst (λ (xs : List (Option Answer)). IsClosing v n xs after) (sym ends) (subst (IsClosing v n c.loop-place.ends.items) (sym same) (kept.3 v is))),
            subst (LeavesLog first) (sym same) kept.4,
          )
    ]
