use Rattle.std.proofs.Common.{◌≤◌, List, [], ◌∷◌, ◌++◌, length, map, sym, ap, ◌∙◌, subst, arith}
use Rattle.std.specs.List.{All}
use Rattle.std.specs.Prelude.{vec_capacity}
use Rattle.std.specs.Vec.Iter.{into_iter_items}
use Rattle.std.proofs.lemmas.List.Elements.{All-append, All-cons, All-nil}
use Rattle.erm_engine.proofs.Joined.{yields_on}
use Rattle.erm_script.specs.declared.script.ScriptLine.{ScriptLine}
use Rattle.erm_run_beside.specs.declared.jobs.Part.{Part}
use Rattle.erm_run_beside.specs.Jobs.{HasRoom}
use Rattle.erm_run_beside.proofs.More.{map_push}
use Rattle.erm_run_beside.proofs.jobs.with_answers.Goals as goal

pub loop-lines-preserved : goal.loop-lines-preserved
loop-lines-preserved c =
    let at = c.loop-lines in
    let lines = c.in-Some.lines in
    let made : Part = record { lines = lines; answers = c.in_ok-answers.answers } in
    let next = c.in-Some.ensures.steps in
    let pushed = c.in_ok-push.ensures.items in (
      yields_on at.yielded lines (into_iter_items c.next.new.self) _ _ at.invariant.0 next.0,
      (let was = at.invariant.1 in let gone = next.1 in let short = ap (λ l. length l) next.0 in omega (arith, was, gone, short)),
      ap (λ (l : List Part). map (λ p. p.lines.items) l) pushed ∙ map_push (λ (p : Part). p.lines.items) at.made.items made ∙ ap (λ (l : List (List ScriptLine)). l ++ lines.items ∷ []) at.invariant.2
          ∙ sym (map_push (λ p. p.items) at.yielded lines),
      subst (λ (l : List Part). All HasRoom l) (sym pushed)
          (All-append HasRoom at.made.items (made ∷ []) at.invariant.3
          (All-cons HasRoom made []
          (record { none = c.in_ok-answers.ensures.none; room = subst (λ (l : List ScriptLine). length l ≤ vec_capacity c.in_ok-answers.answers) c.as_slice.ensures.value c.in_ok-answers.ensures.room }) (All-nil HasRoom))),
    )
