-- What sessions at once leave on a disk, whose log a desk writes: the laws, as statements.
use Rattle.std.specs.Prelude.{◌≡◌, ℕ, ◌++◌, List, [], Option, false}
use Rattle.std.specs.List.{All}
use Rattle.erm_model.specs.Committed.{Committed, RunsInOrder, rank_of}
use Rattle.erm_model.specs.Database.{Database}
use Rattle.erm_model.specs.SerialOrder.{IsSerialOrder}
use Rattle.erm_outside.specs.Disk.{Step, Tells}
use Rattle.erm_ckpt.specs.Recovered.{State}
use Rattle.erm_ckpt.specs.declared.slot.Slots.{Slots}
use Rattle.erm_checkpoint.specs.Taken.{state_at}
use Rattle.erm_node.specs.TreeMap.{map_of_rows}
use Rattle.erm_report.specs.Printable.{FitsTypes}
use Rattle.erm_report.specs.declared.answer.Answer.{Answer}
use Rattle.erm_report.specs.declared.line.Line.{Line}
use Rattle.erm_script.specs.declared.script.ScriptLine.{ScriptLine}
use Rattle.erm_world.specs.Log.{place_behind}
use Rattle.erm_world.specs.World.{View}
use Rattle.erm_good_report.specs.Opening.{Opening}
use Rattle.erm_good_report.specs.Phases.{Closed}
use Rattle.erm_cut_at_once.specs.Laws.{TellsCutAtOnce}
use Rattle.erm_report_at_once.specs.Laws.{TellsAtOnce}
use Rattle.erm_works.specs.Starved.{IsStarvedRunAtOnce}
use Rattle.erm_rule.specs.declared.view.Start.{Start}
use Rattle.erm_desk.specs.Desk.{Sees}
use Rattle.erm_desk.specs.Known.{flushed_log}
use Rattle.erm_told_crash.specs.Logged.{HasCommits}
use Rattle.erm_disk_run.specs.Crashes.{Outlives}
use Rattle.erm_disk_run.specs.Found.{StartsFrom}
use Rattle.erm_disk_run.specs.Opened.{OpensEachLog}
use Rattle.erm_disk_at_once.specs.Desks.{AnswersTell, AreAcknowledged, HasDesk, HasLogged, OpensTable, StandFor, StartsReport}
use Rattle.erm_disk_at_once.specs.Runs.{LeavesAll, WasCutAtOnce, WasRunAtOnce, WasStarvedAtOnce}

-- The commits for which a desk's blocks stand outlive a crash: those flushed, and those tried at a turn at which the disk failed.
abbrev pub CommitsOutlive : Type 0
CommitsOutlive = (state : State) (slots : Slots) (o : Start) (before mid : Option (List Step)) (faults : ℕ) (d : Sees) (has : HasDesk state slots o before mid faults d)
    → (told : List Committed) → StandFor told state (state_at (flushed_log o (has.desk.blocks ++ has.desk.tried)) []) (has.desk.blocks ++ has.desk.tried)
    → (lines : List Line) (answers : List Answer) → AnswersTell answers lines → AreAcknowledged (place_behind o.tail has.desk.blocks) answers
    → Tells (Outlives told state lines) before d.told

-- Where a desk's disk hasn't failed, and its log, all of which is flushed, has the commits, a crash leaves the map behind the last of them.
abbrev pub CommitsAreLeft : Type 0
CommitsAreLeft = (state : State) (slots : Slots) (o : Start) (before mid : Option (List Step)) (faults : ℕ) (d : Sees) (has : HasDesk state slots o before mid faults d) → d.failed ≡ false
    → (told : List Committed) → StandFor told state (state_at (flushed_log o has.desk.blocks) []) has.desk.blocks
    → (order : List Committed) (end : Database) → IsSerialOrder rank_of told order → RunsInOrder order (map_of_rows state.rows) end
    → HasCommits (flushed_log o has.desk.blocks) told
    → Tells (LeavesAll told state end) before d.told

-- Where no session ran behind an opening, a crash leaves the state found.
abbrev pub OpeningsAreLeft : Type 0
OpeningsAreLeft = (state : State) (slots : Slots) (o : Start) (before mid : Option (List Step)) → OpensTable state o → OpensEachLog state slots before mid
    → (opening : Opening) → StartsFrom state opening → (names : List (List ℕ)) (script : List ScriptLine) → WasStarvedAtOnce before mid state names script

-- Lines that summarize an execution at once, of whose log the desk flushed all, are a good report of a run on the disk.
abbrev pub RunsAtOnceEndOnDisk : Type 0
RunsAtOnceEndOnDisk = (state : State) (slots : Slots) (o : Start) (before mid : Option (List Step)) (faults : ℕ) (d : Sees) (has : HasDesk state slots o before mid faults d) → d.failed ≡ false
    → (names spare : List (List ℕ)) (script : List ScriptLine) (opening : Opening) (v f : View) (lines : List Line) → StartsReport state names spare script opening v → All FitsTypes lines
    → f.flushed ≡ place_behind o.tail has.desk.blocks → f.flushed ≡ f.tail → HasLogged o has.desk.blocks f
    → TellsAtOnce v f opening (names ++ spare) script lines → WasRunAtOnce before d.told state names script lines

-- Lines that tell of one that was cut off are a good report of what was run, whatever the disk did at the desk's last turn.
abbrev pub CutRunsAtOnceEndOnDisk : Type 0
CutRunsAtOnceEndOnDisk = (state : State) (slots : Slots) (o : Start) (before mid : Option (List Step)) (faults : ℕ) (d : Sees) (has : HasDesk state slots o before mid faults d)
    → (names spare : List (List ℕ)) (script : List ScriptLine) (opening : Opening) (v f : View) (lines : List Line) → StartsReport state names spare script opening v → All FitsTypes lines
    → f.flushed ≡ place_behind o.tail has.desk.blocks → HasLogged o (has.desk.blocks ++ has.desk.tried) f
    → TellsCutAtOnce v f opening script lines → WasCutAtOnce before d.told state names script lines

-- What the lines answered tell of one for some of whose sessions memory ran out, or of which nothing is told, outlives a crash, whatever the disk did at the
-- desk's last turn.
abbrev pub StarvedRunsAtOnceEndOnDisk : Type 0
StarvedRunsAtOnceEndOnDisk = (state : State) (slots : Slots) (o : Start) (before mid : Option (List Step)) (faults : ℕ) (d : Sees) (has : HasDesk state slots o before mid faults d)
    → (names spare : List (List ℕ)) (script : List ScriptLine) (opening : Opening) (v f : View) (counts : ℕ → ℕ) (answers : List Answer) (closed : List Closed)
    → StartsReport state names spare script opening v → f.flushed ≡ place_behind o.tail has.desk.blocks → HasLogged o (has.desk.blocks ++ has.desk.tried) f
    → IsStarvedRunAtOnce v script counts answers closed f → WasStarvedAtOnce before d.told state names script
