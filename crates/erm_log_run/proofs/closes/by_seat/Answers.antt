use Rattle.std.proofs.Common.{◌≡◌, ℕ, ◌+◌, ◌<◌, ◌≤◌, List, [], ◌∷◌, ◌++◌, length, map, slice_index_or, take, Option, Some, None, Vec, refl, sym, ap, ◌∙◌, arith}
use Rattle.std.proofs.lemmas.List.{append-nil, get_or-set_other, length-append, length-set, map-append}
use Rattle.std.specs.declared.alloc.Global.{Global}
use Rattle.erm_report.specs.declared.answer.Answer.{Answer}
use Rattle.erm_good_report.specs.Phases.{Closed}
use Rattle.erm_summary.specs.declared.told.ClosedSession.{ClosedSession}
use Rattle.erm_summary.specs.Told.{closed_of}
use Rattle.erm_log_run.specs.Closing.{closes_from}
use Rattle.erm_log_run.proofs.Seats.{closes_step}
use Rattle.erm_log_run.proofs.closes.by_seat.Goals as goal
use Rattle.erm_log_run.proofs.closes.by_seat.Goals.{in-Some+in_ok-push, in_default}

pub loop-place-preserved : goal.loop-place-preserved
loop-place-preserved c =
    let kept = c.loop-place.invariant in
    let n = c.args.sessions in
    let place = c.loop-place.place in
    let ends = c.args.ends.items in
    let before = c.loop-place.ends.items in
    let many = c.requires.ends in
    let inside = c.loop-place-test.true in
    let few : place < length ends = omega (arith, inside, many) in
    let found : c.take_end.result ≡ slice_index_or ends place None = c.take_end.ensures.answer ∙ kept.3 place (omega arith) inside in
    let size : length c.take_end.new.ends.items ≡ n = ap (λ (xs : List (Option Answer)). length xs) c.take_end.ensures.taken ∙ length-set before place None ∙ kept.0 in
    let others : (k : ℕ) → place + 1 ≤ k → k < n → slice_index_or c.take_end.new.ends.items k None ≡ slice_index_or ends k None =
    λ k above low. ap (λ (xs : List (Option Answer)). slice_index_or xs k None) c.take_end.ensures.taken ∙ get_or-set_other before place k None None (λ same. omega (arith, above, same)) ∙ kept.3 k (omega (arith, above)) low
    in
    elim c.match-take_end.branch [
      | in-Some+in_ok-push w ↦
          let a = w.in-Some.answer in
          let pushed : c.match-take_end.closed.items ≡ c.loop-place.closed.items ++ record { session = place + 1; answer = a } ∷ [] = ap (λ (xs : Vec ClosedSession Global). xs.items) w.closed-is ∙ w.in_ok-push.ensures.items in (
            size,
            (let longer = ap (λ (xs : List ClosedSession). length xs) pushed ∙ length-append c.loop-place.closed.items (record { session = place + 1; answer = a } ∷ []) in let so_far = kept.1 in omega (arith, longer, so_far)),
            ap (map closed_of) pushed ∙ map-append closed_of c.loop-place.closed.items (record { session = place + 1; answer = a } ∷ [])
                ∙ ap (λ (cs : List Closed). cs ++ record { session = place + 1; answer = a } ∷ []) kept.2 ∙ sym (closes_step ends place (Some a) few (sym found ∙ w.in-Some.is)),
            others,
          )
      | in_default w ↦
          let same : c.match-take_end.closed.items ≡ c.loop-place.closed.items = ap (λ (xs : Vec ClosedSession Global). xs.items) w.closed-is in (
            size,
            (let e = ap (λ (xs : List ClosedSession). length xs) same in let so_far = kept.1 in omega (arith, e, so_far)),
            ap (map closed_of) same ∙ kept.2 ∙ sym (append-nil (closes_from 1 (take place ends)))
                ∙ sym (closes_step ends place None few (sym found ∙ none c.take_end.result w.in_default.not-Some)),
            others,
          )
    ]
  where
    none : (o : Option Answer) → ((a : Answer) → o ≡ Some a → ⊥) → o ≡ None
    none None nobody = refl
    none (Some a) nobody = absurd (nobody a refl)
