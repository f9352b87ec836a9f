-- What all sessions did as an execution of the whole script.
use Rattle.std.specs.Prelude.{List, Option}
use Rattle.erm_report.specs.declared.answer.Answer.{Answer}
use Rattle.erm_script.specs.declared.script.ScriptLine.{ScriptLine}
use Rattle.erm_world.specs.World.{View}
use Rattle.erm_lines_at_once.specs.Executions.{IsRunAtOnce}
use Rattle.erm_joined.specs.Merged.{AreMerged, closes_from}
use Rattle.erm_works.specs.Works.{AreComplete, AreWorks, IsSplit}

-- THE LAW. Where the work of each session is complete, the answers put together and the sessions closed are an execution of the script.
abbrev pub WorksAreARun : Type 0
WorksAreARun = (v f : View) (script : List ScriptLine) (parts : List (List ScriptLine)) (answers : List (List Answer)) (closed : List (Option Answer)) (merged : List Answer)
    → IsSplit v script parts → AreWorks v f parts answers closed → AreComplete f parts answers → AreMerged script answers merged
    → IsRunAtOnce v script merged (closes_from 1 closed) f
