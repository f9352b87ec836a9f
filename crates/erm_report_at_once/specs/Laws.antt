-- What the printed report of an execution at once owes: the laws, as statements.
use Rattle.std.specs.Prelude.{◌≡◌, ℕ, ◌≤◌, List, length}
use Rattle.std.specs.List.{All}
use Rattle.erm_model.specs.declared.limits.TheConstants.{SESSIONS}
use Rattle.erm_report.specs.declared.answer.Answer.{Answer}
use Rattle.erm_report.specs.declared.line.Line.{Line}
use Rattle.erm_report.specs.Printable.{FitsTypes}
use Rattle.erm_script.specs.declared.script.ScriptLine.{ScriptLine}
use Rattle.erm_world.specs.World.{View}
use Rattle.erm_good_report.specs.GoodReport.{IsGoodReport, places_of}
use Rattle.erm_good_report.specs.Opening.{AtOnce, Opening}
use Rattle.erm_good_report.specs.Phases.{Closed}
use Rattle.erm_good_report.specs.Transactions.{said_of, transactions_of}
use Rattle.erm_good_at_once.specs.GoodAtOnce.{IsGoodAtOnce}
use Rattle.erm_good_at_once.specs.Rising.{StampsRise}
use Rattle.erm_lines.specs.Executions.{IsOpeningOf}
use Rattle.erm_lines_at_once.specs.Executions.{IsRunAtOnce}
use Rattle.erm_summary.specs.Summary.{Summarizes}

-- Lines tell of an execution at once: of its answers, and of the sessions that were closed.
pub record TellsAtOnce (v f : View) (opening : Opening) (names : List (List ℕ)) (script : List ScriptLine) (lines : List Line) : Type 0 where
  pub answers : List Answer
  pub closed : List Closed
  pub run : IsRunAtOnce v script answers closed f
  pub told : Summarizes opening names script answers closed lines

-- a good report of sessions at once, whose answers and closed sessions are these
pub record IsGoodOf (opening : Opening) (names : List (List ℕ)) (script : List ScriptLine) (answers : List Answer) (closed : List Closed) (lines : List Line) : Type 0 where
  pub good : IsGoodReport AtOnce opening names script lines
  pub answers_are : good.report.answers ≡ answers
  pub closed_are : good.report.closed ≡ closed
  pub rise : StampsRise AtOnce (transactions_of (length names) (places_of script good.report.answers good.report.closed)) (said_of script good.report.answers)

-- Lines that tell of an execution at once, and whose numbers and values fit their types, are a good report of it, where there are no more sessions than
-- may be.
abbrev pub RunsAtOnceReportWell : Type 0
RunsAtOnceReportWell = (v f : View) (script : List ScriptLine) (opening : Opening) (names : List (List ℕ)) (lines : List Line) → IsOpeningOf v opening → v.opening.sessions ≡ length names
    → length names ≤ SESSIONS → (was : TellsAtOnce v f opening names script lines) → All FitsTypes lines → IsGoodOf opening names script was.answers was.closed lines

-- They are good in full: their windows are tight.
abbrev pub RunsAtOnceAreGood : Type 0
RunsAtOnceAreGood = (v f : View) (script : List ScriptLine) (opening : Opening) (names : List (List ℕ)) (lines : List Line) → IsOpeningOf v opening → v.opening.sessions ≡ length names
    → length names ≤ SESSIONS → TellsAtOnce v f opening names script lines → All FitsTypes lines → IsGoodAtOnce opening names script lines
