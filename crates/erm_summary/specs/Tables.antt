-- The tables of a report's map.
use Rattle.std.specs.Prelude.{◌≡◌, ℕ, ◌≤◌, List, None}
use Rattle.std.specs.List.{All}
use Rattle.erm_model.specs.Database.{Database, value_at}
use Rattle.erm_model.specs.Member.{◌∈◌}
use Rattle.erm_model.specs.declared.limits.TheConstants.{TABLES}
use Rattle.erm_report.specs.declared.answer.Answer.{Answer}
use Rattle.erm_report.specs.declared.line.Line.{Line}
use Rattle.erm_report.specs.Printable.{IsInTables}
use Rattle.erm_script.specs.Script.{IsInRange}
use Rattle.erm_script.specs.declared.script.ScriptLine.{ScriptLine}
use Rattle.erm_good_report.specs.Opening.{Opening}
use Rattle.erm_good_report.specs.Phases.{Closed}
use Rattle.erm_summary.specs.Summary.{Summarizes}

-- no key but those of the tables that there are has a value
abbrev pub KeysAreInTables : Database → Type 0
KeysAreInTables m = (table key : ℕ) → TABLES ≤ table → value_at m table key ≡ None

-- The lines of a summary name tables that there are, where the map that it starts from and the commands of its script do.
abbrev pub SummariesAreInTables : Type 0
SummariesAreInTables = (opening : Opening) (names : List (List ℕ)) (script : List ScriptLine) (answers : List Answer) (closed : List Closed) (lines : List Line) →
    Summarizes opening names script answers closed lines → KeysAreInTables opening.map → ((l : ScriptLine) → l ∈ script → IsInRange l.command) → All IsInTables lines
