-- The counts of a report's lines are those of its answers, where no session is closed at the end.
use Rattle.std.proofs.Common.{◌≡◌, ℕ, zero, suc, ◌+◌, Bool, true, false, nat_lt, cond, not, List, [], ◌∷◌, ◌++◌, length, map, Option, Some, take, refl, sym, ap, ◌∙◌, subst, append_assoc, append-nil, arith}
use Rattle.std.specs.Prelude.{IfSome}
use Rattle.std.specs.List.{filter, range_with_len, slice_get}
use Rattle.erm_model.specs.declared.limits.TheConstants.{LOG_END}
use Rattle.erm_model.specs.declared.map.Pair.{Pair}
use Rattle.erm_model.specs.Committed.{Committed}
use Rattle.erm_report.specs.declared.answer.Answer.{Answer}
use Rattle.erm_report.specs.declared.line.Line.{Line}
use Rattle.erm_report.specs.declared.line.Line.TheVariants as line
use Rattle.erm_script.specs.declared.script.ScriptLine.{ScriptLine}
use Rattle.erm_good_report.specs.GoodReport.{Report, answer_lines, close_line, line_in_order, order_line, report_lines}
use Rattle.erm_good_report.specs.Opening.{Mode, Opening}
use Rattle.erm_good_report.specs.Phases.{Closed, is_idle, phase_of}
use Rattle.erm_good_report.specs.Refusals.{moment_at}
use Rattle.erm_good_report.specs.GoodReport.{places_of}
use Rattle.erm_good_report.specs.Transactions.{Said, said_of, transactions_of}
use Rattle.erm_good_report.proofs.Determining.{after_answers, report_lines_by_parts}
use Rattle.erm_make.specs.Workload.{names_of, numbered, workload}
use Rattle.erm_made.specs.Counts.{count, is_commit, is_exclusion, leaves_open, meets_newer, meets_owner, tells}
use Rattle.erm_made.specs.Law.{IsReportOfWorkload}
use Rattle.erm_made.proofs.Balance.{AreEach, IsCounted, IsOver, all_end, ended_in, said_one}
use Rattle.erm_made.proofs.Turns.{not_stuck}
use Rattle.erm_made.proofs.Walks.{workload_walks}

-- ---- counts of lists

pub count-cons : {X : Type 0} (p : X → Bool) (x : X) (xs : List X) → count p (x ∷ xs) ≡ cond (p x) 1 0 + count p xs
count-cons {X} p x xs =
    let by : (b : Bool) → length (cond b (x ∷ filter p xs) (filter p xs)) ≡ cond b 1 0 + length (filter p xs) =
    λ b. elim b as (λ t. length (cond t (x ∷ filter p xs) (filter p xs)) ≡ cond t 1 0 + length (filter p xs)) [ true ↦ omega arith | false ↦ omega arith ] in
    by (p x)

count-append : {X : Type 0} (p : X → Bool) (xs ys : List X) → count p (xs ++ ys) ≡ count p xs + count p ys
count-append p [] ys = omega arith
count-append p (x ∷ xs) ys = omega (arith, count-cons p x (xs ++ ys), count-cons p x xs, count-append p xs ys)

false_first : (b : Bool) (n : ℕ) → cond b 1 0 + n ≡ 0 → b ≡ false
false_first true n none = absurd (omega (arith, none))
false_first false n none = refl

-- where none is such, that one isn't
isnt_such : {X : Type 0} (p : X → Bool) (xs : List X) (i : ℕ) (y : X) → count p xs ≡ 0 → slice_get xs i ≡ Some y → p y ≡ false
isnt_such {X} p [] i y none at = let P : Option X → Type 0 = λ o. IfSome o (λ z. ⊥) in absurd (subst P at tt)
isnt_such {X} p (x ∷ xs) zero y none at =
    let P : Option X → Type 0 = λ o. IfSome o (λ z. p z ≡ false) in
    subst P at (false_first (p x) (count p xs) (sym (count-cons p x xs) ∙ none))
isnt_such p (x ∷ xs) (suc i) y none at = isnt_such p xs i y (omega (arith, count-cons p x xs, none)) at

-- ---- the lines of a report

count_answers : (p : Answer → Bool) (script : List ScriptLine) (answers : List Answer) → length answers ≡ length script → count (tells p) (answer_lines script answers) ≡ count p answers
count_answers p [] [] same = refl
count_answers p [] (a ∷ answers) same = absurd (omega (arith, same))
count_answers p (l ∷ script) [] same = absurd (omega (arith, same))
count_answers p (l ∷ script) (a ∷ answers) same =
    count-cons (tells p) (line.Answer l.line a) (answer_lines script answers)
    ∙ ap (λ n. cond (p a) 1 0 + n) (count_answers p script answers (omega (arith, same))) ∙ sym (count-cons p a answers)

order_tells : (p : Answer → Bool) (b : Bool) (names : List (List ℕ)) (c : Committed) → tells p (line_in_order b names c) ≡ false
order_tells p true names c = refl
order_tells p false names c = refl

no_commit_tells : (p : Answer → Bool) (names : List (List ℕ)) (commits : List Committed) (rest : List Line) → count (tells p) (map (order_line names) commits ++ rest) ≡ count (tells p) rest
no_commit_tells p names [] rest = refl
no_commit_tells p names (c ∷ commits) rest =
    omega (
      arith,
      count-cons (tells p) (order_line names c) (map (order_line names) commits ++ rest),
      ap {B = ℕ} (λ b. cond b 1 0) (order_tells p (nat_lt c.stamp LOG_END) names c),
      no_commit_tells p names commits rest,
    )

no_pair_tells : (p : Answer → Bool) (pairs : List Pair) (rest : List Line) → count (tells p) (map line.Pair pairs ++ rest) ≡ count (tells p) rest
no_pair_tells p [] rest = refl
no_pair_tells p (pair ∷ pairs) rest = no_pair_tells p pairs rest

none_after : (p : Answer → Bool) (names : List (List ℕ)) (r : Report) → r.closed ≡ [] → count (tells p) (after_answers names r) ≡ 0
none_after p names r none =
    let pairs : List Line = map line.Pair r.pairs ++ line.End ∷ [] in
    let P : List Closed → Type 0 = λ closed. count (tells p) (map (close_line names) closed ++ (line.Order (length r.order) ∷ map (order_line names) r.order ++ (line.Map (length r.pairs) ∷ pairs))) ≡ 0 in
    let base : P [] = no_commit_tells p names r.order (line.Map (length r.pairs) ∷ pairs) ∙ no_pair_tells p r.pairs (line.End ∷ []) in
    subst P (sym none) base

count_parts : (p : Answer → Bool) (opening : Opening) (names : List (List ℕ)) (script : List ScriptLine) (r : Report) (lines : List Line) → lines ≡ report_lines opening names script r
    → length r.answers ≡ length script → count (tells p) lines ≡ count p r.answers + count (tells p) (after_answers names r)
count_parts p opening names script r lines is same =
    ap (λ ls. count (tells p) ls) (is ∙ report_lines_by_parts opening names script r)
    ∙ count-append (tells p) (answer_lines script r.answers) (after_answers names r)
    ∙ ap (λ n. n + count (tells p) (after_answers names r)) (count_answers p script r.answers same)

-- ---- the answers

ended_is : (answers : List Answer) → ended_in answers ≡ count is_commit answers + count is_exclusion answers + count meets_owner answers + count meets_newer answers
ended_is [] = refl
ended_is (a ∷ answers) =
    omega (arith, ended_is answers, count-cons is_commit a answers, count-cons is_exclusion a answers, count-cons meets_owner a answers, count-cons meets_newer a answers)

-- so is each line with its answer, where it is so at each place
pub each_of : (P : List Said → ScriptLine → Answer → Type 0) (before : List Said) (script : List ScriptLine) (answers : List Answer) → length answers ≡ length script
    → ((i : ℕ) (l : ScriptLine) (a : Answer) → slice_get script i ≡ Some l → slice_get answers i ≡ Some a → P (before ++ take i (said_of script answers)) l a)
    → AreEach P before script answers
each_of P before [] [] same each = tt
each_of P before [] (a ∷ answers) same each = absurd (omega (arith, same))
each_of P before (l ∷ script) [] same each = absurd (omega (arith, same))
each_of P before (l ∷ script) (a ∷ answers) same each =
    let one : Said = said_one l.session l.command a in
    let Q : List Said → Type 0 = λ said. P said l a in (
      subst Q (append-nil before) (each 0 l a refl refl),
      each_of P (before ++ one ∷ []) script answers (omega (arith, same))
          (λ i k b at said.
          let R : List Said → Type 0 = λ all. P all k b in
          subst R (sym (append_assoc before (one ∷ []) (take i (said_of script answers)))) (each (suc i) k b at said)),
    )

-- ---- no session is closed

none_kept : (f : ℕ → Bool) (a n : ℕ) → ((k : ℕ) → f k ≡ false) → filter f (range_with_len a n) ≡ []
none_kept f a zero none = refl
none_kept f a (suc n) none =
    ap (λ b. cond b (a ∷ filter f (range_with_len (a + 1) n)) (filter f (range_with_len (a + 1) n))) (none a) ∙ none_kept f (a + 1) n none

no_element : {X Y : Type 0} (f : X → Y) (xs : List X) → map f xs ≡ [] → xs ≡ []
no_element f [] none = refl
no_element f (x ∷ xs) none = absurd (omega (arith, ap length none))

-- ---- all together

module _ (mode : Mode) (opening : Opening) (transactions sessions : ℕ) (lines : List Line) (is : IsReportOfWorkload mode opening transactions sessions lines) where
  abbrev names : List (List ℕ)
  names = names_of transactions sessions

  abbrev script : List ScriptLine
  script = numbered 1 (workload transactions sessions)

  abbrev answers : List Answer
  answers = is.good.report.answers

  parts : (p : Answer → Bool) → count (tells p) lines ≡ count p answers + count (tells p) (after_answers names is.good.report)
  parts p = count_parts p opening names script is.good.report lines is.good.lines_ok is.good.each

  -- each answer fits, and is counted
  pub counted_at : (i : ℕ) (l : ScriptLine) (a : Answer) → slice_get script i ≡ Some l → slice_get answers i ≡ Some a → IsCounted (take i (said_of script answers)) l a
  counted_at i l a at told =
      let all = transactions_of (length names) (places_of script answers is.good.report.closed) in
      let decided : count leaves_open answers ≡ 0 = omega (arith, parts leaves_open, is.decided) in
      record {
        fits = is.good.owes.phases.fits i l a at told;
        looks = is.good.owes.phases.snapshots i l a at told;
        calm = not_stuck (moment_at mode opening script answers all i l) a (is.good.owes.refusals.each i l a at told).log (isnt_such leaves_open answers i a decided told);
      }

  all_over : IsOver (16 + transactions) 0 (said_of script answers) answers
  all_over =
      all_end (sessions + 1) (16 + transactions) 1 (workload transactions sessions) answers (omega arith) (workload_walks transactions sessions is.some)
      (each_of IsCounted [] script answers is.good.each counted_at)

  none_closed : is.good.report.closed ≡ []
  none_closed =
      let said : List Said = said_of script answers in
      no_element (λ (c : Closed). c.session) is.good.report.closed
      (is.good.closes.each ∙ none_kept (λ k. not (is_idle (phase_of k said))) 1 (length names) (λ k. ap (λ p. not (is_idle p)) (all_over.idle k)))

  -- the lines tell as many as the answers do
  pub count_of : (p : Answer → Bool) → count (tells p) lines ≡ count p answers
  count_of p = omega (arith, parts p, none_after p names is.good.report none_closed)

  pub each_counted : count (tells is_commit) lines + count (tells is_exclusion) lines + count (tells meets_owner) lines + count (tells meets_newer) lines ≡ 16 + transactions
  each_counted = omega (arith, count_of is_commit, count_of is_exclusion, count_of meets_owner, count_of meets_newer, ended_is answers, all_over.all)
