-- What the report of an execution at once owes to its answers: the law, as a statement.
use Rattle.std.specs.Prelude.{◌≤◌, List}
use Rattle.erm_model.specs.declared.limits.TheConstants.{SESSIONS}
use Rattle.erm_report.specs.declared.answer.Answer.{Answer}
use Rattle.erm_script.specs.declared.script.ScriptLine.{ScriptLine}
use Rattle.erm_world.specs.World.{View}
use Rattle.erm_good_report.specs.GoodReport.{OwesToAnswers, places_of}
use Rattle.erm_good_report.specs.Opening.{AtOnce, Opening}
use Rattle.erm_good_report.specs.Phases.{Closed}
use Rattle.erm_good_report.specs.Transactions.{ended_of, said_of, transactions_of}
use Rattle.erm_good_at_once.specs.CutReports.{OwesInPart}
use Rattle.erm_good_at_once.specs.Rising.{StampsRise}
use Rattle.erm_lines.specs.Executions.{IsOpeningOf}
use Rattle.erm_lines_at_once.specs.Laws.{OfRunsAtOnce}
use Rattle.erm_lines_at_once.specs.Parts.{IsRunInPart}

-- Phases and stamps agree, each transaction was answered on its snapshot, each commit, exclusion and refusal has its cause, what is owed of snapshots
-- that only read is so, and what was met lies below.
abbrev pub RunsAtOnceOwe : Type 0
RunsAtOnceOwe = OfRunsAtOnce (λ opening script answers closed told. OwesToAnswers AtOnce opening script answers told × StampsRise AtOnce told (said_of script answers))

-- The same of an execution that is told in part, and that its commits and the safe snapshots that ended give their replies in the serial order, where
-- there are no more sessions than may be.
abbrev pub RunsInPartOwe : Type 0
RunsInPartOwe = (v f : View) (whole part : List ScriptLine) (answers : List Answer) (closed : List Closed) (opening : Opening)
    → IsRunInPart v whole part answers closed f → IsOpeningOf v opening → v.opening.sessions ≤ SESSIONS
    → OwesInPart opening whole part answers (transactions_of v.opening.sessions (places_of part answers closed)) (ended_of v.opening.sessions (places_of part answers closed))
