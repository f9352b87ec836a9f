use Rattle.std.proofs.Common.{◌≡◌, ℕ, ◌+◌, ◌-◌, ◌<◌, ◌≤◌, List, [], ◌∷◌, ◌++◌, length, map, slice_index_or, take, drop, Option, Some, None, Vec, IfNone, option_to_list, inl, inr, refl, sym, ap, ◌∙◌, subst, arith}
use Rattle.std.specs.Vec.Iter.{into_iter_items}
use Rattle.std.specs.declared.alloc.Global.{Global}
use Rattle.std.specs.declared.vec.IntoIter.{IntoIter}
use Rattle.std.proofs.Math.Seq.{take-append_seam}
use Rattle.std.proofs.lemmas.List.{get_or-map, length-map, take_all, take_more}
use Rattle.std.proofs.lemmas.Option.{get_or_from_slice_get, slice_get-get_or, slice_get_cases, slice_get_within}
use Rattle.erm_model.specs.Member.{◌∈◌}
use Rattle.erm_report.specs.declared.answer.Answer.{Answer}
use Rattle.erm_script.specs.declared.script.ScriptLine.{ScriptLine}
use Rattle.erm_good_at_once.specs.CutReports.{answered_of}
use Rattle.erm_threads.specs.Merged.{own_answers}
use Rattle.erm_threads.specs.Parts.{IsSeatOf, own_lines}
use Rattle.erm_joined.specs.Merged.{AreFirst, AreMerged, counts_of}
use Rattle.erm_joined.proofs.Answered.{all_answered}
use Rattle.erm_joined.proofs.Order.{IsSoFar, at_last, counts_is, no_more, one_more}
use Rattle.erm_joined.proofs.merged.merge.Goals as goal
use Rattle.erm_joined.proofs.merged.merge.Goals.{in-Some+in_ok-push, in_default}

abbrev Part : Type 0
Part = Vec Answer Global

abbrev Rest : Type 0
Rest = IntoIter Answer Global

abbrev part_items : Part → List Answer
part_items p = p.items

abbrev rest_items : Rest → List Answer
rest_items r = into_iter_items r

long_rests : (parts : List Part) (rests : List Rest) → map rest_items rests ≡ map part_items parts → length rests ≡ length parts
long_rests parts rests same = sym (length-map rests rest_items) ∙ ap (λ (xs : List (List Answer)). length xs) same ∙ length-map parts part_items

pub loop-line-init : goal.loop-line-init
loop-line-init c =
    let parts = c.args.parts.items in
    let rests = c.in_ok-rests.rests.items in
    let same : map rest_items rests ≡ map part_items parts = c.in_ok-rests.ensures.same in
    let long = long_rests parts rests same in (
      long,
      ap (λ (xs : List Answer). length xs) c.in_ok-answers.ensures.items,
      λ k d e few. sym (get_or-map part_items parts k d [] few) ∙ ap (λ (xs : List (List Answer)). slice_index_or xs k []) (sym same) ∙ get_or-map rest_items rests k e [] (omega (arith, few, long))
          ∙ ap (λ (xs : List Answer). own_answers (k + 1) [] xs ++ rest_items (slice_index_or rests k e)) (sym c.in_ok-answers.ensures.items),
    )

-- so far, with these defaults for what is past the parts
abbrev SoFar : List Part → Part → (ℕ → List Answer) → List ScriptLine → List Answer → Type 0
SoFar parts d rest lines answers =
    IsSoFar (counts_of (map part_items parts)) (length parts) (λ k. part_items (slice_index_or parts k d)) (λ k few. counts_is part_items parts k d few) rest lines answers

seat_of : (script : List ScriptLine) (n : ℕ) → ((l : ScriptLine) → l ∈ script → IsSeatOf n l) → (i : ℕ) (l : ScriptLine) → i < length script → l ≡ slice_index_or script i l → IsSeatOf n l
seat_of script n seats i l few is = seats l (i, slice_get-get_or script i l few ∙ ap (λ (x : ScriptLine). Some x) (sym is))

pub next_of-requires : goal.next_of-requires
next_of-requires c =
    let fits = seat_of c.args.script.now c.args.parts.len c.requires.seats c.loop-line.line-index c.line-item.result c.loop-line-test.true c.line-item.is in
    let many = c.loop-line.invariant.0 in
    let known = c.args.parts.ok.0 in
    let long = ap (λ (xs : List Rest). length xs) c.as_mut_slice.ensures.value in
    let high = fits.1 in
    record { seat = (fits.0, omega (arith, high, many, known, long)) }

pub loop-line-preserved : goal.loop-line-preserved
loop-line-preserved c =
    let script = c.args.script.now in
    let parts = c.args.parts.items in
    let counts = counts_of (map part_items parts) in
    let i = c.loop-line.line-index in
    let l = c.line-item.result in
    let before = c.loop-line.rests.items in
    let slice = c.as_mut_slice.result.now in
    let after = c.next_of.new.rests in
    let behind = drop (length after) before in
    let at = c.loop-line.invariant in
    let fits = seat_of script c.args.parts.len c.requires.seats i l c.loop-line-test.true c.line-item.is in
    let seat : IsSeatOf (length parts) l = subst (λ (n : ℕ). IsSeatOf n l) c.args.parts.ok.0 fits in
    let value : slice ≡ before = c.as_mut_slice.ensures.value in
    let many : length after ≡ length before = c.next_of.ensures.many ∙ ap (λ (xs : List Rest). length xs) value in
    let back : take c.loop-line.rests.len (after ++ behind) ≡ after = ap (λ (n : ℕ). take n (after ++ behind)) (c.loop-line.rests.ok.0 ∙ sym many) ∙ take-append_seam after behind in
    let longer : take (i + 1) script ≡ take i script ++ l ∷ [] = take_more script i l c.loop-line-test.true ∙ ap (λ (x : ScriptLine). take i script ++ x ∷ []) (sym c.line-item.is) in
    let next : (k : ℕ) (e : Rest) → k < length parts → rest_items (slice_index_or before k e) ≡ own_answers (k + 1) (l ∷ []) (option_to_list c.next_of.result) ++ rest_items (slice_index_or after k e) =
    λ k e few. subst (λ (xs : List Rest). rest_items (slice_index_or xs k e) ≡ own_answers (k + 1) (l ∷ []) (option_to_list c.next_of.result) ++ rest_items (slice_index_or after k e)) value
    (c.next_of.ensures.own k e (let same = at.0 in let long = ap (λ (xs : List Rest). length xs) value in omega (arith, few, same, long))) in
    let goes : (d : Part) (e : Rest) → SoFar parts d (λ k. rest_items (slice_index_or after k e)) (take i script ++ l ∷ []) c.match-next_of.answers.items =
    λ d e. elim c.match-next_of.branch [
      | in-Some+in_ok-push w ↦
          let a = w.in-Some.answer in
          let pushed : c.match-next_of.answers.items ≡ c.loop-line.answers.items ++ a ∷ [] = ap (λ (xs : Vec Answer Global). xs.items) w.answers-is ∙ w.in_ok-push.ensures.items in
          subst (λ (xs : List Answer). SoFar parts d (λ k. rest_items (slice_index_or after k e)) (take i script ++ l ∷ []) xs) (sym pushed)
          (one_more counts (length parts) (λ k. part_items (slice_index_or parts k d)) (λ k few. counts_is part_items parts k d few)
          (λ k. rest_items (slice_index_or before k e)) (λ k. rest_items (slice_index_or after k e)) (take i script) c.loop-line.answers.items l a seat
          (at.1, λ k few. at.2 k d e few)
          (λ k few. subst (λ (o : Option Answer). rest_items (slice_index_or before k e) ≡ own_answers (k + 1) (l ∷ []) (option_to_list o) ++ rest_items (slice_index_or after k e)) w.in-Some.is (next k e few)))
      | in_default w ↦
          let same : c.match-next_of.answers.items ≡ c.loop-line.answers.items = ap (λ (xs : Vec Answer Global). xs.items) w.answers-is in
          let none = nobody c.next_of.result w.in_default.not-Some in
          subst (λ (xs : List Answer). SoFar parts d (λ k. rest_items (slice_index_or after k e)) (take i script ++ l ∷ []) xs) (sym same)
          (no_more counts (length parts) (λ k. part_items (slice_index_or parts k d)) (λ k few. counts_is part_items parts k d few)
          (λ k. rest_items (slice_index_or before k e)) (λ k. rest_items (slice_index_or after k e)) (take i script) c.loop-line.answers.items l seat
          (at.1, λ k few. at.2 k d e few)
          (λ k few. subst (λ (o : Option Answer). rest_items (slice_index_or before k e) ≡ own_answers (k + 1) (l ∷ []) (option_to_list o) ++ rest_items (slice_index_or after k e)) none (next k e few)
          ∙ ap (λ (xs : List Answer). xs ++ rest_items (slice_index_or after k e)) (no_answers (k + 1) l))
          (subst (λ (xs : List Rest). rest_items (slice_index_or xs (l.session - 1) e) ≡ []) value
          ((subst (λ (o : Option Answer). IfNone o ((x : Rest) → rest_items (slice_index_or slice (l.session - 1) x) ≡ [])) none c.next_of.ensures.none) e)))
    ] in
    let some : Rest = elim (slice_get_cases before (l.session - 1)).1 [
      | inl it ↦ it.0
      | inr past ↦ absurd (let least = past.0 in let same = at.0 in let low = seat.0 in let high = seat.1 in omega (arith, least, same, low, high))
    ] in
    let one = goes c.loop-line.answers some in (
      ap (λ (xs : List Rest). length xs) back ∙ many ∙ at.0,
      subst (λ (ls : List ScriptLine). length c.match-next_of.answers.items ≡ length (answered_of counts ls)) (sym longer) one.0,
      λ k d e few. subst (λ (xs : List Rest). part_items (slice_index_or parts k d) ≡ own_answers (k + 1) (answered_of counts (take (i + 1) script)) c.match-next_of.answers.items ++ rest_items (slice_index_or xs k e)) (sym back)
          (subst (λ (ls : List ScriptLine). part_items (slice_index_or parts k d) ≡ own_answers (k + 1) (answered_of counts ls) c.match-next_of.answers.items ++ rest_items (slice_index_or after k e)) (sym longer) ((goes d e).1 k few)),
    )
  where
    nobody : (o : Option Answer) → ((a : Answer) → o ≡ Some a → ⊥) → o ≡ None
    nobody None no_one = refl
    nobody (Some a) no_one = absurd (no_one a refl)

    no_answers : (s : ℕ) (l : ScriptLine) → own_answers s (l ∷ []) [] ≡ []
    no_answers s l = refl

-- what is so behind the last line
at_end : (script : List ScriptLine) (parts : List Part) (rests : List Rest) (answers : List Answer) (d : Part) → AreFirst script (map part_items parts) → length rests ≡ length parts
    → length answers ≡ length (answered_of (counts_of (map part_items parts)) script)
    → ((k : ℕ) (d : Part) (e : Rest) → k < length parts
    → part_items (slice_index_or parts k d) ≡ own_answers (k + 1) (answered_of (counts_of (map part_items parts)) script) answers ++ rest_items (slice_index_or rests k e))
    → AreMerged (answered_of (counts_of (map part_items parts)) script) (map part_items parts) answers
at_end script parts rests answers d first many each own = record {
  many = each;
  own = λ k part is.
      let few : k < length parts = (let within = slice_get_within (map part_items parts) k part is in let same = length-map parts part_items in omega (arith, within, same)) in
      let part_is : part_items (slice_index_or parts k d) ≡ part = sym (get_or-map part_items parts k d [] few) ∙ get_or_from_slice_get (map part_items parts) k part [] is in
      elim (slice_get_cases rests k).1 [
        | inl it ↦
            at_last (counts_of (map part_items parts)) (length parts) (λ k. part_items (slice_index_or parts k d)) (λ k few. counts_is part_items parts k d few)
            (λ k. rest_items (slice_index_or rests k it.0)) script answers (each, λ j within. own j d it.0 within) k few
            (subst (λ (xs : List Answer). length xs ≤ length (own_lines (k + 1) script)) (sym part_is) (first k part is)) ∙ part_is
        | inr past ↦ absurd (let least = past.0 in omega (arith, least, many, few))
      ];
}

pub returns-clause-merged : goal.returns-clause-merged
returns-clause-merged c =
    let script = c.args.script.now in
    let parts = c.args.parts.items in
    let counts = counts_of (map part_items parts) in
    let rests = c.loop-line.rests.items in
    let answers = c.loop-line.answers.items in
    let at = c.loop-line.invariant in
    let all : take c.loop-line.line-index script ≡ script = take_all c.loop-line.line-index script (let over = c.loop-line-test.false in omega (arith, over)) in
    at_end script parts rests answers c.loop-line.answers c.requires.first at.0 (at.1 ∙ ap (λ (ls : List ScriptLine). length (answered_of counts ls)) all)
    (λ k d e few. at.2 k d e few ∙ ap (λ (ls : List ScriptLine). own_answers (k + 1) (answered_of counts ls) answers ++ rest_items (slice_index_or rests k e)) all)

pub returns-clause-whole : goal.returns-clause-whole
returns-clause-whole c = λ enough.
    let script = c.args.script.now in
    let parts = c.args.parts.items in
    let counts = counts_of (map part_items parts) in
    let all : answered_of counts script ≡ script = all_answered counts script (λ l m.
    let fits = c.requires.seats l m in
    let low = fits.0 in
    let high = fits.1 in
    let known = c.args.parts.ok.0 in
    let same = length-map parts part_items in
    elim (slice_get_cases (map part_items parts) (l.session - 1)).1 [
      | inl it ↦
          let long = enough (l.session - 1) it.0 it.2 in
          let is : l.session - 1 + 1 ≡ l.session = omega (arith, low) in
          let long_is = subst (λ (s : ℕ). length it.0 ≡ length (own_lines s script)) is long in
          let count : counts l.session ≡ length it.0 = ap (λ (xs : List Answer). length xs) (get_or_from_slice_get (map part_items parts) (l.session - 1) it.0 [] it.2) in
          omega (arith, long_is, count)
      | inr past ↦ absurd (let least = past.0 in omega (arith, least, low, high, known, same))
    ]) in
    subst (λ (ls : List ScriptLine). AreMerged ls (map part_items parts) c.loop-line.answers.items) all (returns-clause-merged c)
