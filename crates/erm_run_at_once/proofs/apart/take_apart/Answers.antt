use Rattle.std.proofs.Common.{◌≡◌, ℕ, ◌+◌, List, [], ◌∷◌, ◌++◌, length, map, Vec, sym, ap, ◌∙◌, arith}
use Rattle.std.specs.declared.alloc.Global.{Global}
use Rattle.std.specs.Vec.Iter.{into_iter_items}
use Rattle.std.proofs.lemmas.List.{append_assoc, length-append, length-map, map-append}
use Rattle.erm_report.specs.declared.answer.Answer.{Answer}
use Rattle.erm_good_report.specs.Phases.{Closed}
use Rattle.erm_joined.specs.Merged.{closes_from}
use Rattle.erm_joined.proofs.Closes.{closes_more}
use Rattle.erm_run_at_once.specs.Ran.{closes_of}
use Rattle.erm_run_beside.specs.declared.work.SessionWork.{SessionWork}
use Rattle.erm_run_at_once.proofs.apart.take_apart.Goals as goal

pub loop-work-preserved : goal.loop-work-preserved
loop-work-preserved c =
    let at = c.loop-work.invariant in
    let ys = c.loop-work.yielded in
    let one = c.in-Some.work in
    let seat = at.1 in
    let next = c.in-Some.ensures.steps in
    let noted = closes_of ys in
    let place : c.loop-work.seat + 1 ≡ 1 + length noted = (let long = length-map ys (λ (w : SessionWork). w.closed) in omega (arith, seat, long)) in (
      append_assoc ys (one ∷ []) (into_iter_items c.next.new.self) ∙ ap (λ (l : List SessionWork). ys ++ l) (sym next.0) ∙ at.0,
      (let long = length-append ys (one ∷ []) in omega (arith, seat, long)),
      ap (map (λ (p : Vec Answer Global). p.items)) c.in_ok-push.ensures.items ∙ map-append (λ (p : Vec Answer Global). p.items) c.loop-work.apart.parts.items (one.answers ∷ [])
          ∙ ap (λ (l : List (List Answer)). l ++ one.answers.items ∷ []) at.2 ∙ sym (map-append (λ (w : SessionWork). w.answers.items) ys (one ∷ [])),
      c.in_ok-note.ensures.noted ∙ ap (λ (l : List Closed). l ++ closes_from (c.loop-work.seat + 1) (one.closed ∷ [])) at.3
          ∙ ap (λ (s : ℕ). closes_from 1 noted ++ closes_from s (one.closed ∷ [])) place
          ∙ sym (ap (closes_from 1) (map-append (λ (w : SessionWork). w.closed) ys (one ∷ [])) ∙ closes_more 1 noted (one.closed ∷ [])),
      (let was = at.4 in let gone = next.1 in let short = ap (λ (l : List SessionWork). length l) next.0 in omega (arith, was, gone, short)),
    )
