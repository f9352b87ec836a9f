-- What a session's answers tell of others' transactions lies below what it begins later.
use Rattle.std.specs.Prelude.{◌≡◌, ℕ, ◌<◌, ◌≤◌, true, List, Option, Some, None, IfSome}
use Rattle.std.specs.List.{slice_get}
use Rattle.erm_model.specs.Member.{◌∈◌}
use Rattle.erm_report.specs.declared.answer.Answer.{Answer}
use Rattle.erm_report.specs.declared.answer.Answer.TheVariants as answer
use Rattle.erm_good_report.specs.Opening.{Mode, is_before}
use Rattle.erm_good_report.specs.Snapshots.{BeginsSnapshot}
use Rattle.erm_good_report.specs.Stamps.{AllInTime, Told, begin_told}
use Rattle.erm_good_report.specs.Transactions.{HasSnapshot, Said, Snapshot, Transaction}

-- of the two stamps that an early exclusion prints the greater one is the stamp of a commit
abbrev pub stamp_met : Answer → Option ℕ
stamp_met (answer.ExcludedEarly succ pred) = Some pred
stamp_met a = None

-- the answer names this transaction, which had claimed what the line asked for, or gave the claim up for want of a cell
abbrev pub Names : Answer → Transaction → Type 0
Names (answer.Owned seat number) t = (t.session ≡ seat) × (t.number ≡ number)
Names a t = ⊥

-- what an earlier line met lies below a begin stamp, or there
pub record IsMetBelow (transactions : List Transaction) (a : Answer) (begin : ℕ) : Type 0 where
  pub met : IfSome (stamp_met a) (λ stamp. stamp < begin)
  pub named : (t : Transaction) → t ∈ transactions → Names a t → t.begin ≤ begin

-- What was met lies below: a begin is above the stamp of each commit that closed a window of an earlier line, and not below the begin of a
-- transaction that an earlier line names; so is the begin stamp of a safe snapshot, by the line that began it. Where lines are run in turn this
-- follows from the causes of refusals; at once it does not.
pub record StampsRise (mode : Mode) (transactions : List Transaction) (said : List Said) : Type 0 where
  pub met : AllInTime mode (λ a b. Told (λ stamp begin. stamp < begin) (stamp_met a.answer) (begin_told b.answer)) said
  pub named : (t : Transaction) → t ∈ transactions
      → AllInTime mode (λ a b. Names a.answer t → IfSome (begin_told b.answer) (λ begin. t.begin ≤ begin)) said
  pub watched : (i j session begin : ℕ) (s : Snapshot) (a : Said) → BeginsSnapshot said i session s.number → HasSnapshot said session s → s.begin ≡ Some begin
      → j < i → slice_get said j ≡ Some a → is_before mode a.session session ≡ true → IsMetBelow transactions a.answer begin
