-- The good report of sessions that run at once.
use Rattle.std.specs.Prelude.{ℕ, List, length}
use Rattle.erm_report.specs.declared.line.Line.{Line}
use Rattle.erm_script.specs.declared.script.ScriptLine.{ScriptLine}
use Rattle.erm_good_report.specs.GoodReport.{HaveTightWindows, IsGoodReport, places_of}
use Rattle.erm_good_report.specs.Opening.{AtOnce, Opening}
use Rattle.erm_good_report.specs.Transactions.{said_of, transactions_of}
use Rattle.erm_good_at_once.specs.Rising.{StampsRise}

-- It is good, of two lines of one session the one being before the other; what was met lies below; and its windows are tight, where its lines
-- show it.
pub record IsGoodAtOnce (opening : Opening) (names : List (List ℕ)) (script : List ScriptLine) (lines : List Line) : Type 0 where
  pub good : IsGoodReport AtOnce opening names script lines
  pub rise : StampsRise AtOnce (transactions_of (length names) (places_of script good.report.answers good.report.closed)) (said_of script good.report.answers)
  pub tight : HaveTightWindows (transactions_of (length names) (places_of script good.report.answers good.report.closed))
