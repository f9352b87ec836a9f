-- What the bytes of a report tell.
use Rattle.std.specs.Prelude.{◌≡◌, ℕ, List}
use Rattle.erm_report.specs.declared.line.Line.{Line}
use Rattle.erm_report.specs.Texts.{text_of}
use Rattle.erm_script.specs.declared.grammar.Grammar.{Grammar}
use Rattle.erm_script.specs.declared.script.ScriptLine.{ScriptLine}
use Rattle.erm_script.specs.Script.{IsScript}
use Rattle.erm_good_report.specs.GoodReport.{IsGoodReport}
use Rattle.erm_good_report.specs.Opening.{Mode, Opening}

-- a good report of a script, whatever it starts from
abbrev pub IsReportOf : Mode → List (List ℕ) → List ScriptLine → List Line → Type 0
IsReportOf mode names script lines = (opening : Opening) × IsGoodReport mode opening names script lines

-- A report's bytes determine its lines: two good reports of one script that have the same bytes have the same lines.
abbrev pub ReportsAreDetermined : Type 0
ReportsAreDetermined = (g : Grammar) (bytes : List ℕ) (mode other : Mode) (names : List (List ℕ)) (script : List ScriptLine) (lines others : List Line) → IsScript g bytes names script →
    IsReportOf mode names script lines → IsReportOf other names script others → text_of lines ≡ text_of others → lines ≡ others
