-- What all sessions did, of which some were left behind their first lines, as an execution that was cut off.
use Rattle.std.specs.Prelude.{List, map, Option}
use Rattle.erm_report.specs.declared.answer.Answer.{Answer}
use Rattle.erm_script.specs.declared.script.ScriptLine.{ScriptLine}
use Rattle.erm_world.specs.World.{View}
use Rattle.erm_good_at_once.specs.CutReports.{answered_of}
use Rattle.erm_lines_at_once.specs.CutRuns.{IsCutRunAtOnce}
use Rattle.erm_joined.specs.Merged.{AreMerged, closes_from, counts_of, told_when_cut}
use Rattle.erm_works.specs.Works.{AreWorks, IsSplit}

-- THE LAW. Wherever sessions were left, the answers put together, to the first lines of each, and the sessions that were decided at the end are an
-- execution of the script that was cut off.
abbrev pub WorksAreACutRun : Type 0
WorksAreACutRun = (v f : View) (script : List ScriptLine) (parts : List (List ScriptLine)) (answers : List (List Answer)) (closed : List (Option Answer)) (merged : List Answer)
    → IsSplit v script parts → AreWorks v f parts answers closed → AreMerged (answered_of (counts_of answers) script) answers merged
    → IsCutRunAtOnce v script (counts_of answers) merged (closes_from 1 (map told_when_cut closed)) f
