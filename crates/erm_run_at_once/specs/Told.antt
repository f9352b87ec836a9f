-- What is told of sessions that ran at once: their answers put together, by the numbers of their lines.
use Rattle.std.specs.Prelude.{◌≡◌, ℕ, ◌≤◌, ◌++◌, ◌∷◌, Bool, true, false, List, [], length, Option, Result, Ok, Err, Vec}
use Rattle.std.specs.declared.alloc.Global.{Global}
use Rattle.erm_model.specs.declared.limits.TheConstants.{SESSIONS}
use Rattle.erm_model.specs.Member.{◌∈◌}
use Rattle.erm_report.specs.declared.answer.Answer.{Answer}
use Rattle.erm_report.specs.declared.line.Line.{Line}
use Rattle.erm_report.specs.declared.line.Line.TheVariants as line
use Rattle.erm_script.specs.declared.script.ScriptLine.{ScriptLine}
use Rattle.erm_good_report.specs.GoodReport.{answer_lines}
use Rattle.erm_good_at_once.specs.CutReports.{answered_of}
use Rattle.erm_summary.specs.declared.report.Start.{Start}
use Rattle.erm_summary.specs.Summary.{Summarizes, opening_at}
use Rattle.erm_threads.specs.Parts.{IsSeatOf}
use Rattle.erm_joined.specs.Merged.{AreAll, AreFirst, AreMerged, closes_from, counts_of}
use Rattle.erm_run_beside.specs.declared.work.SessionWork.{SessionWork}
use Rattle.erm_run_at_once.specs.Ran.{NoneLacked, answers_of, closes_of}
use Rattle.erm_disk_run.specs.declared.stops.RunStop.{RunStop}
use Rattle.erm_disk_run.specs.declared.stops.RunStop.TheVariants as run

-- Of a script's sessions, which answered so and were closed so, the lines are the report: there is an answer to each line of the script.
pub record TellsWhole (start : Start) (names : List (List ℕ)) (script : List ScriptLine) (parts : List (List Answer)) (closes : List (Option Answer)) (lines : List Line) : Type 0 where
  pub answers : List Answer
  pub merged : AreMerged script parts answers
  pub told : (rows first : ℕ) → Summarizes (opening_at start rows first) names script answers (closes_from 1 closes) lines

-- They are the report up to the disk's fault: the opening, the answers to each session's first lines, by the numbers of their lines, and the fault.
pub record TellsCut (stamp run_is : ℕ) (script : List ScriptLine) (parts : List (List Answer)) (lines : List Line) : Type 0 where
  pub answers : List Answer
  pub merged : AreMerged (answered_of (counts_of parts) script) parts answers
  pub told : lines ≡ line.Open stamp run_is ∷ answer_lines (answered_of (counts_of parts) script) answers ++ line.DiskFault ∷ []

-- The works may be told of the sessions of a script, where none lacked memory: they are as many as its sessions, no session has more answers than lines,
-- and where the disk hasn't failed each has an answer to each of its lines.
pub record MayTell (failed : Bool) (script : List ScriptLine) (works : List SessionWork) : Type 0 where
  pub few : length works ≤ SESSIONS
  pub seats : (l : ScriptLine) → l ∈ script → IsSeatOf (length works) l
  pub first : NoneLacked works → AreFirst script (answers_of works)
  pub all : failed ≡ false → NoneLacked works → AreAll script (answers_of works)

-- What is told of sessions that ran: the report, where the disk hasn't failed, and else that up to the fault, where no session lacked memory; or that
-- memory ran out.
abbrev pub ToldOf : Result (Vec Line Global) RunStop → Start → List (List ℕ) → List ScriptLine → Bool → List SessionWork → Type 0
ToldOf (Ok lines) start names script failed works = (failed ≡ false) × NoneLacked works × TellsWhole start names script (answers_of works) (closes_of works) lines.items
ToldOf (Err (run.DiskFault lines)) start names script failed works =
    (failed ≡ true) × NoneLacked works × TellsCut start.stamp start.run script (answers_of works) lines.items
ToldOf (Err (run.Unopened stop)) start names script failed works = ⊥
ToldOf (Err run.Memory) start names script failed works = Unit {0}
