-- The successor stamps of the commits that a report tells lie behind its opening: each is a stamp, or that of a commit that came before.
use Rattle.std.proofs.Common.{inl, inr, ◌≡◌, ℕ, zero, suc, ◌+◌, ◌<◌, ◌≤◌, List, Option, Some, None, IfSome, refl, ap, subst, arith}
use Rattle.erm_model.specs.Committed.{Committed}
use Rattle.erm_model.specs.Member.{◌∈◌}
use Rattle.erm_model.specs.declared.limits.TheConstants.{LEAST_BLOCK}
use Rattle.erm_report.specs.declared.answer.Answer.{Answer}
use Rattle.erm_script.specs.declared.script.ScriptLine.{ScriptLine}
use Rattle.erm_good_report.specs.Causes.{HasCauseOf, HasWindow}
use Rattle.erm_good_report.specs.GoodReport.{OwesToAnswers}
use Rattle.erm_good_report.specs.Opening.{Mode, Opening}
use Rattle.erm_good_report.specs.Transactions.{Aborts, Commits, Ending, Excludes, Transaction, Unfinished, committed_as, history_of, stamp_of}
use Rattle.erm_told.proofs.Differing.{of_history}

-- the stamp that a commit's ending tells
stamp_is : (t : Transaction) (stamp succ pred : ℕ) → t.ending ≡ Commits stamp succ pred → stamp_of t ≡ Some stamp
stamp_is t stamp succ pred is = ap (λ (e : Ending). stamp_of (record t { ending = e })) is

module _ (mode : Mode) (opening : Opening) (script : List ScriptLine) (answers : List Answer) (told : List Transaction) (owes : OwesToAnswers mode opening script answers told) where
  abbrev Behind : ℕ → Type 0
  Behind succ = opening.stamp + LEAST_BLOCK ≤ succ

  begun : (t : Transaction) (stamp succ pred : ℕ) → t ∈ told → t.ending ≡ Commits stamp succ pred → t.begin ≤ stamp
  begun t stamp succ pred m is = subst (λ (o : Option ℕ). IfSome o (λ s. t.begin ≤ s)) (stamp_is t stamp succ pred is) (owes.stamps.begun t m)

  -- the cause of a successor stamp has a lesser stamp
  behind : (most : ℕ) (t : Transaction) (stamp succ pred : ℕ) → t ∈ told → t.ending ≡ Commits stamp succ pred → stamp < most → Behind succ
  behind zero t stamp succ pred m is less = absurd (omega (arith, less))
  behind (suc most) t stamp succ pred m is less =
      let window : HasWindow told t stamp succ pred = subst (λ (e : Ending). HasCauseOf e told t) is (owes.causes t m) in
      elim window.succ_cause [
        | inl own ↦ let least = owes.stamps.least t m in let begin = begun t stamp succ pred m is in omega (arith, own, least, begin)
        | inr u ↦ let before = u.2.before in behind most u.0 u.2.own succ u.2.pred u.1 u.2.ending (omega (arith, before, less))
      ]

  pub stay_behind : (c : Committed) → c ∈ history_of told → Behind c.succ
  stay_behind c m = of_ending found.0.ending refl found.2
    where
      found : (u : Transaction) × (u ∈ told) × (committed_as u.ending u ≡ Some c)
      found = of_history told c m

      succ_in : Option Committed → ℕ
      succ_in None = 0
      succ_in (Some d) = d.succ

      of_ending : (e : Ending) → found.0.ending ≡ e → committed_as e found.0 ≡ Some c → Behind c.succ
      of_ending (Commits stamp succ pred) is told_as = subst Behind (ap succ_in told_as) (behind (suc stamp) found.0 stamp succ pred found.1 is (omega arith))
      of_ending Unfinished is told_as = absurd (let no : None ≡ Some c = told_as in cc)
      of_ending (Excludes stamp succ pred) is told_as = absurd (let no : None ≡ Some c = told_as in cc)
      of_ending Aborts is told_as = absurd (let no : None ≡ Some c = told_as in cc)
