-- The window of the transaction that the worked report of write skew excludes.
use Rattle.std.proofs.Common.{◌≡◌, ℕ, ◌<◌, List, [], ◌∷◌, ◌++◌, length, map, Some, refl, sym, ◌∙◌, subst, inl, inr, arith}
use Rattle.std.specs.Prelude.{◌⊎◌}
use Rattle.erm_model.specs.Database.{at}
use Rattle.erm_model.specs.Member.{◌∈◌}
use Rattle.erm_report.specs.declared.answer.Answer.{Answer}
use Rattle.erm_report.specs.declared.answer.Answer.TheVariants as answer
use Rattle.erm_report.specs.declared.line.Line.{Line}
use Rattle.erm_report.specs.declared.line.Line.TheVariants as line
use Rattle.std.specs.Prelude.{codes}
use Rattle.erm_script.specs.declared.script.ScriptLine.{ScriptLine}
use Rattle.erm_good_report.specs.Causes.{HasCauseOf, HasNoWindow}
use Rattle.erm_good_report.specs.GoodReport.{IsGoodReport, answer_lines, close_line, places_of}
use Rattle.erm_good_report.specs.Opening.{InTurn, Opening}
use Rattle.erm_good_report.specs.Phases.{Closed}
use Rattle.erm_good_report.specs.Transactions.{Transaction, transactions_of, Commits}
use Rattle.erm_good_report.specs.WriteSkew.{names, script, answers, report_with, ItsWindowIsDetermined}
use Rattle.erm_good_report.proofs.Determining.{after_answers, report_lines_by_parts}
use Rattle.erm_good_report.proofs.Parts.{each_in}

-- the answers to a script's lines, and the lines after them, are read off
answers_read : (lines : List ScriptLine) (gs hs : List Answer) (xs ys : List Line) → length gs ≡ length lines → length hs ≡ length lines → answer_lines lines gs ++ xs ≡ answer_lines lines hs ++ ys
    → (gs ≡ hs) × (xs ≡ ys)
answers_read [] [] [] xs ys m n same = (refl, same)
answers_read [] [] (h ∷ hs) xs ys m n same = absurd (omega arith)
answers_read [] (g ∷ gs) hs xs ys m n same = absurd (omega arith)
answers_read (l ∷ ls) [] hs xs ys m n same = absurd (omega arith)
answers_read (l ∷ ls) (g ∷ gs) [] xs ys m n same = absurd (omega arith)
answers_read (l ∷ ls) (g ∷ gs) (h ∷ hs) xs ys m n same =
    let head : g ≡ h = cc in
    let tail : answer_lines ls gs ++ xs ≡ answer_lines ls hs ++ ys = cc in
    let rest = answers_read ls gs hs xs ys (omega arith) (omega arith) tail in
    ((λ i. head i ∷ rest.0 i), rest.1)

none_closed : (closed : List Closed) (commits : ℕ) (xs ys : List Line) → line.Order commits ∷ xs ≡ map (close_line names) closed ++ ys → closed ≡ []
none_closed [] commits xs ys same = refl
none_closed (c ∷ cs) commits xs ys same = absurd (cc)

abbrev told_with : Answer → List Transaction
told_with last = transactions_of 2 (places_of script (answers last) [])

abbrev behind : List Line
behind =
    line.Order 2
    ∷ line.Commit (codes "a") 1 13 13 0
    ∷ line.Commit (codes "a") 2 38 38 13
    ∷ line.Map 2
    ∷ line.Pair (record { key = at 0 10; value = 161 ∷ [] })
    ∷ line.Pair (record { key = at 0 20; value = 187 ∷ [] })
    ∷ line.End
    ∷ []

by_parts : (last : Answer) → report_with last ≡ line.Open 8 1 ∷ (answer_lines script (answers last) ++ behind)
by_parts last = refl

abbrev HasCauses : List Answer × List Closed → Type 0
HasCauses parts = (t : Transaction) → t ∈ transactions_of 2 (places_of script parts.0 parts.1) → HasCauseOf t.ending (transactions_of 2 (places_of script parts.0 parts.1)) t

causes_of : (opening : Opening) (last : Answer) → IsGoodReport InTurn opening names script (report_with last) → HasCauses (answers last, [])
causes_of opening last good =
    let r = good.report in
    let lines : line.Open 8 1 ∷ (answer_lines script (answers last) ++ behind) ≡ line.Open opening.stamp opening.run ∷ (answer_lines script r.answers ++ after_answers names r) =
    sym (by_parts last) ∙ good.lines_ok ∙ report_lines_by_parts opening names script r in
    let tail : answer_lines script (answers last) ++ behind ≡ answer_lines script r.answers ++ after_answers names r = cc lines in
    let parts = answers_read script (answers last) r.answers behind (after_answers names r) refl good.each tail in
    let closed : r.closed ≡ [] = none_closed r.closed 2 _ _ parts.1 in
    let causes : HasCauses (r.answers, r.closed) = good.owes.causes in
    subst HasCauses (λ i. (sym parts.0 i, closed i)) causes

-- the two commits of the first session
is_commit : (stamp succ pred : ℕ) (u : Transaction) → u ∈ told_with (answer.Excluded stamp succ pred) → (s p q : ℕ) → u.ending ≡ Commits s p q → ((s ≡ 13) × (p ≡ 13)) ⊎ ((s ≡ 38) × (p ≡ 38))
is_commit stamp succ pred = each_in (λ u. (s p q : ℕ) → u.ending ≡ Commits s p q → ((s ≡ 13) × (p ≡ 13)) ⊎ ((s ≡ 38) × (p ≡ 38))) (told_with (answer.Excluded stamp succ pred))
    (λ s p q is. inl (cc, cc), (λ s p q is. inr (cc, cc), (λ s p q is. absurd (cc), tt)))

window : (stamp succ pred : ℕ) (t : Transaction) → t.begin ≡ 38 → HasNoWindow (told_with (answer.Excluded stamp succ pred)) t (Some stamp) succ pred → (succ ≡ 38) × (pred ≡ 38) × (38 < stamp)
window stamp succ pred t begins has =
    let after = has.succ_cause in
    let before = has.pred_cause in
    elim (is_commit stamp succ pred has.after has.after_in after.own succ after.pred after.ending) [
      | inl first ↦ absurd (omega (arith, first.0, after.after, begins))
      | inr second ↦ elim (is_commit stamp succ pred has.before has.before_in pred before.succ before.pred before.ending) [
        | inl early ↦ absurd (omega (arith, second.1, early.0, has.closed))
        | inr late ↦ (second.1, late.0, omega (arith, second.0, after.before))
      ]
    ]

pub its_window : ItsWindowIsDetermined
its_window opening stamp succ pred good = window stamp succ pred _ refl (causes_of opening (answer.Excluded stamp succ pred) good _ (2, refl))
