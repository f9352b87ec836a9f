-- What the lines of a report have to do with the world that was run.
use Rattle.std.specs.Prelude.{◌≡◌, ◌<◌, ◌≤◌, ℕ, List, [], ◌∷◌, ◌++◌, length, Option, IfSome, Result, Ok, Err, Vec}
use Rattle.std.specs.declared.alloc.Global.{Global}
use Rattle.std.specs.List.{All, slice_get}
use Rattle.erm_report.specs.declared.answer.Answer.{Answer}
use Rattle.erm_report.specs.declared.line.Line.{Line}
use Rattle.erm_report.specs.declared.line.Line.TheVariants as line
use Rattle.erm_script.specs.declared.script.ScriptLine.{ScriptLine}
use Rattle.erm_model.specs.declared.outcome.Phase.TheVariants.{Idle}
use Rattle.erm_world.specs.World.{IsSession, View, phase_at}
use Rattle.erm_good_report.specs.GoodReport.{answer_lines, fault_line, IsCutReport, IsLineOfLog, IsTightReport}
use Rattle.erm_good_report.specs.Opening.{InTurn, Opening}
use Rattle.erm_good_report.specs.Phases.{Closed}
use Rattle.erm_lines.specs.Executions.{AreClosed, closed_in, DidFlush, IsCourse, IsExecution, IsLast, IsRun, Move, line_moves}
use Rattle.erm_log_run.specs.declared.stops.LineStop.{LineStop}
use Rattle.erm_log_run.specs.declared.stops.LineStop.TheVariants.{DiskFault, Memory}
use Rattle.erm_log_run.specs.declared.stops.RunStop.{RunStop}
use Rattle.erm_log_run.specs.declared.stops.RunStop.TheVariants as run
use Rattle.erm_log_run.specs.Closing.{IsClosing}
use Rattle.erm_summary.specs.Summary.{Summarizes}

-- The script was run over this very world, from one view of it to another, and the lines are the report of that run: of its answers, and of
-- the sessions that it closed.
pub record WasRun (v t : View) (opening : Opening) (names : List (List ℕ)) (script : List ScriptLine) (lines : List Line) : Type 0 where
  pub answers : List Answer
  pub closed : List Closed
  pub run : IsRun v script answers t
  pub are : AreClosed run.closing closed
  pub told : Summarizes opening names script answers closed lines

-- the lines of a run are a good report, whose windows are tight, of its answers and of the sessions that it closed
pub record IsReportOf (opening : Opening) (names : List (List ℕ)) (script : List ScriptLine) (answers : List Answer) (closed : List Closed) (lines : List Line) : Type 0 where
  pub tight : IsTightReport InTurn opening names script lines
  pub answers_are : tight.good.report.answers ≡ answers
  pub closed_are : tight.good.report.closed ≡ closed

-- The script's first lines were run over this very world, from one view of it to another, and then the disk failed: at the next line, which is
-- one of the log, or behind the last one, where sessions may have been closed before. The lines are the opening, the answers so far, and the fault.
pub record WasCut (v t : View) (opening : Opening) (names : List (List ℕ)) (script : List ScriptLine) (lines : List Line) : Type 0 where
  pub answers : List Answer
  pub course : IsCourse v script answers t
  pub late : length answers < length script → closed_in course.closing ≡ []
  pub fault : Option ScriptLine
  pub at : fault ≡ slice_get script (length answers)
  pub of_log : IfSome fault IsLineOfLog
  pub lines_ok : lines ≡ line.Open opening.stamp opening.run ∷ answer_lines script answers ++ fault_line fault ∷ []

-- the lines of a run that was cut off are a cut report of its answers
pub record IsCutReportOf (opening : Opening) (names : List (List ℕ)) (script : List ScriptLine) (answers : List Answer) (lines : List Line) : Type 0 where
  pub cut : IsCutReport InTurn opening names script lines
  pub answers_are : cut.answers ≡ answers

-- the lines of a report, whole or cut off
abbrev pub lines_in : Result (Vec Line Global) RunStop → List Line
lines_in (Ok lines) = lines.items
lines_in (Err (run.DiskFault lines)) = lines.items
lines_in (Err run.Memory) = []

-- After the lines of a script that were answered, sessions may have been closed, and the log flushed: these moves were made, from one view to another.
pub record Goes (v : View) (script : List ScriptLine) (answers : List Answer) (closing : List Move) (t : View) : Type 0 where
  pub between : View
  pub lines : IsExecution v (line_moves script answers) between
  pub last : All IsLast closing
  pub closes : IsExecution between closing t

-- where the disk failed, the log may have been flushed further
abbrev pub FlushesOnFault : {T : Type 0} → Result T LineStop → View → View → Type 0
FlushesOnFault (Err DiskFault) v t = DidFlush v t
FlushesOnFault r v t = Unit {0}

-- where the disk failed at a line, it is one of the log
abbrev pub FailsOfLog : {T : Type 0} → Result T LineStop → ScriptLine → Type 0
FailsOfLog (Err DiskFault) l = IsLineOfLog l
FailsOfLog r l = Unit {0}

-- where the disk failed, sessions may have been closed, and the log flushed
abbrev pub ClosesOnFault : {T : Type 0} → Result T LineStop → View → View → Type 0
ClosesOnFault (Err DiskFault) v t = (closing : List Move) × All IsLast closing × IsExecution v closing t
ClosesOnFault r v t = Unit {0}

-- lines of a script were run one after another: all of them, or, where the disk failed, those before, which was at one of the log
abbrev pub Ran : {T : Type 0} → Result T LineStop → View → List ScriptLine → List Answer → View → Type 0
Ran (Ok x) v script answers t = (length answers ≡ length script) × (t.opening ≡ v.opening) × IsExecution v (line_moves script answers) t
Ran (Err DiskFault) v script answers t = (length answers < length script) × ((closing : List Move) × Goes v script answers closing t × (closed_in closing ≡ []))
    × IfSome (slice_get script (length answers)) IsLineOfLog
Ran (Err Memory) v script answers t = Unit {0}

-- and then all sessions were closed, and all of the log flushed
abbrev pub RanAll : Result (Vec (Option Answer) Global) LineStop → View → ℕ → List ScriptLine → List Answer → View → Type 0
RanAll (Ok ends) v sessions script answers t = (length answers ≡ length script)
    × ((between : View) × IsExecution v (line_moves script answers) between × IsClosing between sessions ends.items t)
    × ((seat : ℕ) → IsSession t seat → phase_at t seat ≡ Idle) × (t.flushed ≡ t.tail)
RanAll (Err DiskFault) v sessions script answers t = (length answers ≤ length script)
    × ((closing : List Move) × Goes v script answers closing t × (length answers < length script → closed_in closing ≡ []))
    × IfSome (slice_get script (length answers)) IsLineOfLog
RanAll (Err Memory) v sessions script answers t = Unit {0}

-- what is so of the lines where the disk failed, where it didn't, and where memory didn't run out
abbrev pub OnFault : Result (Vec Line Global) RunStop → (List Line → Type 0) → Type 0
OnFault (Err (run.DiskFault lines)) P = P lines.items
OnFault r P = Unit {0}

abbrev pub UnlessFault : Result (Vec Line Global) RunStop → Type 0 → Type 0
UnlessFault (Err (run.DiskFault lines)) P = Unit {0}
UnlessFault r P = P

abbrev pub UnlessMemory : Result (Vec Line Global) RunStop → Type 0 → Type 0
UnlessMemory (Err run.Memory) P = Unit {0}
UnlessMemory r P = P
