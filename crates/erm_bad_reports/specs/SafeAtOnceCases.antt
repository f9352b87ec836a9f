-- What a report of sessions at once owes beside a good one, part by part; and small reports of such sessions, with snapshots that only read, each of
-- which breaks one clause.
use Rattle.std.specs.Prelude.{◌≡◌, ◌≢◌, ℕ, ◌<◌, ◌≤◌, true, [], ◌∷◌, Some, IfSome}
use Rattle.std.specs.List.{slice_get}
use Rattle.erm_model.specs.Database.{at}
use Rattle.erm_model.specs.Member.{◌∈◌}
use Rattle.erm_model.specs.declared.operation.Op.TheVariants as op
use Rattle.erm_model.specs.declared.operation.Reply.TheVariants as reply
use Rattle.erm_report.specs.declared.answer.Answer.TheVariants as answer
use Rattle.erm_script.specs.declared.script.Command.TheVariants as command
use Rattle.erm_good_report.specs.Opening.{AtOnce, is_before}
use Rattle.erm_good_report.specs.Snapshots.{BeginsSnapshot}
use Rattle.erm_good_report.specs.Stamps.{AllInTime, Told, begin_told}
use Rattle.erm_good_report.specs.Transactions.{HasSnapshot, Said, Snapshot, Transaction, said_of}
use Rattle.erm_good_at_once.specs.GoodAtOnce.{IsGoodAtOnce}
use Rattle.erm_good_at_once.specs.Rising.{IsMetBelow, Names, stamp_met}
use Rattle.erm_bad_reports.specs.Cases.{a_line, b_line, case_of, commit_by, two_names}
use Rattle.erm_bad_reports.specs.Clauses.{Case, Clause, Meets, lines_of, told_of}
use Rattle.erm_bad_reports.specs.SafeCases.{c_line, goes_back, safe_at_last}

-- what was met lies below: a begin is above the commit stamps that closed a window, and not below that of a transaction that is named; so is that of a
-- safe snapshot
pub data Rise : Type 0 where
  Met : Rise
  Named : Rise
  Watched : Rise

abbrev pub MeetsRise : Rise → Case → Type 0
MeetsRise Met k = AllInTime k.mode (λ a b. Told (λ stamp begin. stamp < begin) (stamp_met a.answer) (begin_told b.answer)) (said_of k.script k.report.answers)
MeetsRise Named k = (t : Transaction) → t ∈ told_of k
    → AllInTime k.mode (λ a b. Names a.answer t → IfSome (begin_told b.answer) (λ begin. t.begin ≤ begin)) (said_of k.script k.report.answers)
MeetsRise Watched k = (i j session begin : ℕ) (s : Snapshot) (a : Said) → BeginsSnapshot (said_of k.script k.report.answers) i session s.number
    → HasSnapshot (said_of k.script k.report.answers) session s → s.begin ≡ Some begin → j < i → slice_get (said_of k.script k.report.answers) j ≡ Some a
    → is_before k.mode a.session session ≡ true → IsMetBelow (told_of k) a.answer begin

-- The report breaks this part alone: it keeps its other parts, and each clause of a good report with tight windows; and its lines are no good report
-- of sessions at once, whatever parts they are read as.
pub record BreaksRiseAlone (part : Rise) (k : Case) : Type 0 where
  pub breaks : MeetsRise part k → ⊥
  pub keeps : (other : Rise) → other ≢ part → MeetsRise other k
  pub good : (clause : Clause) → Meets clause k
  pub refused : IsGoodAtOnce k.opening k.names k.script (lines_of k) → ⊥

-- ---- what was met lies below
-- a session is excluded early by a commit with this stamp, and then is told safe there
abbrev pub safe_at_one_met : Case
safe_at_one_met = record (case_of two_names
    (a_line command.Begin ∷ a_line (command.Put 0 2 (2 ∷ [])) ∷ a_line command.Safe ∷ a_line command.Abort ∷ b_line command.Begin ∷ b_line (command.Put 0 1 (1 ∷ [])) ∷ b_line command.Commit ∷ [])
    (answer.Began 13 ∷ answer.ExcludedEarly 13 13 ∷ answer.Safe 13 ∷ answer.Aborted ∷ answer.Began 13 ∷ answer.Replied reply.Done ∷ answer.Committed 13 13 0 ∷ [])
    (commit_by 2 1 13 13 13 0 (record { op = op.Put 0 1 (1 ∷ []); reply = reply.Done } ∷ []) ∷ [])
    (record { key = at 0 1; value = 1 ∷ [] } ∷ [])) { mode = AtOnce }

-- a session is refused by a transaction that began at 18, and then is told safe below
abbrev pub safe_below_its_owner : Case
safe_below_its_owner = record (case_of two_names
    (a_line command.Begin ∷ a_line (command.Put 0 1 (2 ∷ [])) ∷ a_line command.Safe ∷ a_line command.Abort
    ∷ b_line command.Begin ∷ b_line command.Commit ∷ b_line command.Begin ∷ b_line (command.Put 0 1 (1 ∷ [])) ∷ b_line command.Abort ∷ [])
    (answer.Began 13 ∷ answer.Owned 2 2 ∷ answer.Safe 13 ∷ answer.Aborted ∷ answer.Began 13 ∷ answer.Committed 13 13 0 ∷ answer.Began 18 ∷ answer.Replied reply.Done ∷ answer.Aborted ∷ [])
    (commit_by 2 1 13 13 13 0 [] ∷ []) []) { mode = AtOnce }

-- ---- snapshots
-- a `safe` is answered by a wait
abbrev pub waits_at_once : Case
waits_at_once = record safe_at_last { mode = AtOnce }

-- a snapshot is told safe at the stamp of a commit that has its turn before
abbrev pub safe_beside_one_that_went_back : Case
safe_beside_one_that_went_back = goes_back AtOnce [] [] (c_line command.Safe ∷ c_line command.Abort ∷ []) (answer.Safe 47 ∷ answer.Aborted ∷ [])
