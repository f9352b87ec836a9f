-- Where the stamps were drawn that a report tells of transactions.
use Rattle.std.specs.Prelude.{◌≡◌, ℕ, ◌+◌, ◌≤◌, ◌⊎◌, List, length, Some, IfSome}
use Rattle.std.specs.List.{slice_get}
use Rattle.erm_model.specs.declared.limits.TheConstants.{GREATEST_BLOCK}
use Rattle.erm_model.specs.Member.{◌∈◌}
use Rattle.erm_report.specs.declared.answer.Answer.{Answer}
use Rattle.erm_report.specs.declared.line.Line.{Line}
use Rattle.erm_script.specs.declared.script.ScriptLine.{ScriptLine}
use Rattle.erm_good_report.specs.GoodReport.{IsCutReport, IsGoodReport, places_of}
use Rattle.erm_good_report.specs.Opening.{Mode, Opening}
use Rattle.erm_good_report.specs.Refusals.{moment_at, most_end}
use Rattle.erm_good_report.specs.Stamps.{DrawsUntold, stamp_drawn}
use Rattle.erm_good_report.specs.Transactions.{Transaction, said_of, stamp_of, transactions_of}

-- A line draws this stamp, and tells it, or is a commit that waits; and the greatest block with it ends where the lines up to this one can have moved the
-- log at most: at once, all lines.
pub record IsDrawnAt (mode : Mode) (opening : Opening) (script : List ScriptLine) (answers : List Answer) (all : List Transaction) (stamp : ℕ) : Type 0 where
  pub place : ℕ
  pub line : ScriptLine
  pub at : slice_get script place ≡ Some line
  pub draws : ((a : Answer) × (slice_get answers place ≡ Some a) × (stamp_drawn (Some line.command) a ≡ Some stamp)) ⊎ DrawsUntold all (said_of script answers) place stamp
  pub within : stamp + GREATEST_BLOCK ≤ most_end (moment_at mode opening script answers all place line)

-- the stamp of each transaction was, where it is told, by its seal or by its end
abbrev pub AreInReach : Mode → Opening → List ScriptLine → List Answer → List Transaction → Type 0
AreInReach mode opening script answers all = (t : Transaction) → t ∈ all → IfSome (stamp_of t) (IsDrawnAt mode opening script answers all)

-- so it is in a good report
abbrev pub GoodOnesAreInReach : Type 0
GoodOnesAreInReach = (mode : Mode) (opening : Opening) (names : List (List ℕ)) (script : List ScriptLine) (lines : List Line) (good : IsGoodReport mode opening names script lines)
    → AreInReach mode opening script good.report.answers (transactions_of (length names) (places_of script good.report.answers good.report.closed))

-- and in one that the disk's fault cut off, also of the sessions that were closed unseen
abbrev pub CutOnesAreInReach : Type 0
CutOnesAreInReach = (mode : Mode) (opening : Opening) (names : List (List ℕ)) (script : List ScriptLine) (lines : List Line) (cut : IsCutReport mode opening names script lines)
    → AreInReach mode opening script cut.answers (transactions_of (length names) (places_of script cut.answers cut.closed))
