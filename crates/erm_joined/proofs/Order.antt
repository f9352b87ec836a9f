-- Answers put in order, line by line.
use Rattle.std.proofs.Common.{◌≡◌, ℕ, suc, ◌+◌, ◌-◌, ◌<◌, ◌≤◌, Bool, if◌then◌else◌, List, [], ◌∷◌, ◌++◌, length, map, slice_index_or, refl, sym, ap, ◌∙◌, subst, arith}
use Rattle.std.proofs.lemmas.List.{append_assoc, append-nil, get_or-map, length-append}
use Rattle.erm_report.specs.declared.answer.Answer.{Answer}
use Rattle.erm_script.specs.declared.script.ScriptLine.{ScriptLine}
use Rattle.erm_good_at_once.specs.CutReports.{answered_of}
use Rattle.erm_threads.specs.Merged.{own_answers}
use Rattle.erm_threads.specs.Parts.{IsSeatOf, own_lines}
use Rattle.erm_joined.specs.Merged.{counts_of}
use Rattle.erm_joined.proofs.Answered.{long_answered, long_answers, more_answered, more_skipped, own_behind}
use Rattle.erm_joined.proofs.Closes.{same_seat}

-- of a list of parts the count is the length of a part
pub counts_is : {X : Type 0} (items : X → List Answer) (parts : List X) (k : ℕ) (d : X) → k < length parts → counts_of (map items parts) (k + 1) ≡ length (items (slice_index_or parts k d))
counts_is items parts k d few =
    let place : k + 1 - 1 ≡ k = omega arith in
    ap (λ (i : ℕ). length (slice_index_or (map items parts) i [])) place ∙ ap (λ (xs : List Answer). length xs) (get_or-map items parts k d [] few)

-- nothing is left
pub no_length : (xs : List Answer) → length xs ≡ 0 → xs ≡ []
no_length [] is = refl
no_length (x ∷ xs) is = absurd (omega (arith, is))

own_one : (l : ScriptLine) (a : Answer) (s : ℕ) → l.session ≡ s → own_answers s (l ∷ []) (a ∷ []) ≡ a ∷ []
own_one l a s is = ap (λ (b : Bool). if b then a ∷ [] else []) (same_seat l.session s is)

module _ (counts : ℕ → ℕ) (n : ℕ) (part : ℕ → List Answer) (counted : (k : ℕ) → k < n → counts (k + 1) ≡ length (part k)) where
  -- so far these answers were put in order, and the rest is left of each part
  abbrev pub IsSoFar : (ℕ → List Answer) → List ScriptLine → List Answer → Type 0
  IsSoFar rest lines answers = (length answers ≡ length (answered_of counts lines)) × ((k : ℕ) → k < n → part k ≡ own_answers (k + 1) (answered_of counts lines) answers ++ rest k)

  -- as many as were answered, and those left
  in_two : (rest : ℕ → List Answer) (lines : List ScriptLine) (answers : List Answer) → IsSoFar rest lines answers → (k : ℕ) → k < n
      → counts (k + 1) ≡ length (own_lines (k + 1) (answered_of counts lines)) + length (rest k)
  in_two rest lines answers so_far k few =
      counted k few ∙ ap (λ (xs : List Answer). length xs) (so_far.1 k few) ∙ length-append (own_answers (k + 1) (answered_of counts lines) answers) (rest k)
      ∙ ap (λ (m : ℕ). m + length (rest k)) (long_answers (k + 1) (answered_of counts lines) answers so_far.0)

  -- a line has the next answer of its session
  pub one_more : (rest now : ℕ → List Answer) (lines : List ScriptLine) (answers : List Answer) (l : ScriptLine) (a : Answer) → IsSeatOf n l → IsSoFar rest lines answers
      → ((k : ℕ) → k < n → rest k ≡ own_answers (k + 1) (l ∷ []) (a ∷ []) ++ now k) → IsSoFar now (lines ++ l ∷ []) (answers ++ a ∷ [])
  one_more rest now lines answers l a seat so_far next =
      let low = seat.0 in
      let high = seat.1 in
      let k = l.session - 1 in
      let few : k < n = omega (arith, low, high) in
      let is : k + 1 ≡ l.session = omega (arith, low) in
      let was = in_two rest lines answers so_far k few in
      let has : length (rest k) ≡ suc (length (now k)) = ap (λ (xs : List Answer). length xs) (next k few ∙ ap (λ (xs : List Answer). xs ++ now k) (own_one l a (k + 1) (sym is))) in
      let left : length (own_lines (k + 1) (answered_of counts lines)) < counts (k + 1) = omega (arith, was, has) in
      let grows = more_answered counts lines l (subst (λ (s : ℕ). length (own_lines s (answered_of counts lines)) < counts s) is left) in (
        length-append answers (a ∷ []) ∙ ap (λ (m : ℕ). m + 1) so_far.0 ∙ sym (length-append (answered_of counts lines) (l ∷ [])) ∙ ap (λ (ls : List ScriptLine). length ls) (sym grows),
        λ j within. so_far.1 j within ∙ ap (λ (xs : List Answer). own_answers (j + 1) (answered_of counts lines) answers ++ xs) (next j within)
            ∙ sym (append_assoc (own_answers (j + 1) (answered_of counts lines) answers) (own_answers (j + 1) (l ∷ []) (a ∷ [])) (now j))
            ∙ ap (λ (xs : List Answer). xs ++ now j) (sym (own_behind (j + 1) (answered_of counts lines) answers l a so_far.0))
            ∙ ap (λ (ls : List ScriptLine). own_answers (j + 1) ls (answers ++ a ∷ []) ++ now j) (sym grows),
      )

  -- none is left for a line
  pub no_more : (rest now : ℕ → List Answer) (lines : List ScriptLine) (answers : List Answer) (l : ScriptLine) → IsSeatOf n l → IsSoFar rest lines answers
      → ((k : ℕ) → k < n → rest k ≡ now k) → rest (l.session - 1) ≡ [] → IsSoFar now (lines ++ l ∷ []) answers
  no_more rest now lines answers l seat so_far next none =
      let low = seat.0 in
      let high = seat.1 in
      let k = l.session - 1 in
      let few : k < n = omega (arith, low, high) in
      let is : k + 1 ≡ l.session = omega (arith, low) in
      let was = in_two rest lines answers so_far k few in
      let has : length (rest k) ≡ 0 = ap (λ (xs : List Answer). length xs) none in
      let past : counts (k + 1) ≤ length (own_lines (k + 1) (answered_of counts lines)) = omega (arith, was, has) in
      let stays = more_skipped counts lines l (subst (λ (s : ℕ). counts s ≤ length (own_lines s (answered_of counts lines))) is past) in (
        so_far.0 ∙ ap (λ (ls : List ScriptLine). length ls) (sym stays),
        λ j within. so_far.1 j within ∙ ap (λ (xs : List Answer). own_answers (j + 1) (answered_of counts lines) answers ++ xs) (next j within)
            ∙ ap (λ (ls : List ScriptLine). own_answers (j + 1) ls answers ++ now j) (sym stays),
      )

  -- behind the last line none is left
  pub at_last : (rest : ℕ → List Answer) (lines : List ScriptLine) (answers : List Answer) → IsSoFar rest lines answers → (k : ℕ) → k < n → length (part k) ≤ length (own_lines (k + 1) lines)
      → own_answers (k + 1) (answered_of counts lines) answers ≡ part k
  at_last rest lines answers so_far k few first =
      let was = in_two rest lines answers so_far k few in
      let counts_so = counted k few in
      let long = long_answered (k + 1) counts lines (omega (arith, counts_so, first)) in
      let none : rest k ≡ [] = no_length (rest k) (omega (arith, was, long)) in
      sym (so_far.1 k few ∙ ap (λ (xs : List Answer). own_answers (k + 1) (answered_of counts lines) answers ++ xs) none ∙ append-nil (own_answers (k + 1) (answered_of counts lines) answers))
