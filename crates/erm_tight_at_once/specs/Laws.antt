-- What executions at once owe of the windows: the law, as a statement.
use Rattle.std.specs.Prelude.{List}
use Rattle.erm_report.specs.declared.answer.Answer.{Answer}
use Rattle.erm_script.specs.declared.script.ScriptLine.{ScriptLine}
use Rattle.erm_world.specs.World.{View}
use Rattle.erm_good_report.specs.GoodReport.{HaveTightWindows, places_of}
use Rattle.erm_good_report.specs.Phases.{Closed}
use Rattle.erm_good_report.specs.Transactions.{transactions_of}
use Rattle.erm_lines_at_once.specs.Executions.{IsRunAtOnce}

-- the windows told are tight
abbrev pub RunsAtOnceHaveTightWindows : Type 0
RunsAtOnceHaveTightWindows = (v f : View) (script : List ScriptLine) (answers : List Answer) (closed : List Closed) → IsRunAtOnce v script answers closed f
    → HaveTightWindows (transactions_of v.opening.sessions (places_of script answers closed))
