-- What a command has to tell of what it did to a disk, by what the disk tells before and after, and by its faults.
use Rattle.std.specs.Prelude.{◌≡◌, ℕ, ◌⊎◌, List, Option, Result, Ok, Err, Vec}
use Rattle.std.specs.List.{All}
use Rattle.std.specs.declared.alloc.Global.{Global}
use Rattle.erm_ckpt.specs.Recovered.{State}
use Rattle.erm_outside.specs.Disk.{Step}
use Rattle.erm_outside.specs.Faults.{Rose}
use Rattle.erm_report.specs.Printable.{FitsTypes}
use Rattle.erm_report.specs.Texts.{line_text, text_of}
use Rattle.erm_report.specs.declared.line.Line.{Line}
use Rattle.erm_report.specs.declared.line.Line.TheVariants as line
use Rattle.erm_script.specs.declared.fault.FaultKind.{FaultKind}
use Rattle.erm_script.specs.declared.grammar.Grammar.{Grammar}
use Rattle.erm_script.specs.declared.script.ScriptLine.{ScriptLine}
use Rattle.erm_script.specs.Faults.{IsFirstBadLine}
use Rattle.erm_made.specs.declared.counts.Made.{Made}
use Rattle.erm_made.specs.Counts.{made_lines}
use Rattle.erm_make.specs.Workload.{names_of}
use Rattle.erm_recover.specs.declared.stop.RecoverStop.{RecoverStop}
use Rattle.erm_recover.specs.declared.stop.RecoverStop.TheVariants as recover
use Rattle.erm_disk_run.specs.declared.stops.DiskStop.TheVariants as disk
use Rattle.erm_disk_run.specs.declared.stops.RunStop.{RunStop}
use Rattle.erm_disk_run.specs.declared.stops.RunStop.TheVariants as run
use Rattle.erm_disk_run.specs.Found.{IsFound}
use Rattle.erm_disk_run.specs.Limits.{in_lists}
use Rattle.erm_disk_run.specs.Runs.{WasCutOn, WasRunOn}
use Rattle.erm_disk_run.specs.Saved.{WasCheckpointed}
use Rattle.erm_disk_run.specs.Stops.{CountsStop, KeepsMap, OnlyOpens, StopsFor, StopsRun}
use Rattle.erm_top.specs.Makes.{AreCountsOf, lines_of}
use Rattle.erm_top.specs.Running.{Running, running_over}
use Rattle.erm_top.specs.Told.{TookMore, WasRead}
use Rattle.erm_top.specs.declared.printing.Stop.{Stop}
use Rattle.erm_top.specs.declared.printing.Stop.TheVariants as stop
use Rattle.erm_top.specs.declared.reading.TheConstants.{SCRIPT_BYTES}

-- why bytes are no script of a grammar that was read
abbrev pub IsRefusal : Grammar → List ℕ → Stop → Type 0
IsRefusal g bytes (stop.BadLine text) = (number : ℕ) × (kind : FaultKind) × (text ≡ line_text (line.BadLine number kind)) × IsFirstBadLine g bytes number kind
IsRefusal g bytes stop.Memory = Unit {0}
IsRefusal g bytes stop = ⊥

-- why no script was read of a source, by what it tells before and after, and by its faults
abbrev pub NotRead : Grammar → Stop → Option (List ℕ) → Option (List ℕ) → ℕ → ℕ → Type 0
NotRead g (stop.BadLine text) before after faults now = ((bytes : List ℕ) × WasRead bytes before after × IsRefusal g bytes (stop.BadLine text)) × (now ≡ faults)
NotRead g stop.ReadFault before after faults now = Rose faults now
NotRead g stop.TooLong before after faults now = TookMore SCRIPT_BYTES before after × (now ≡ faults)
NotRead g stop.Memory before after faults now = now ≡ faults
NotRead g stop before after faults now = ⊥

-- a text tells that nothing comes behind what the disk holds
abbrev pub TellsEnd : List ℕ → Option (List Step) → Option (List Step) → Type 0
TellsEnd text before after = ((run : ℕ) × (text ≡ line_text (line.RunsEnd run)) × StopsFor (disk.RunsEnd run) before after)
    ⊎ ((tail : ℕ) × (text ≡ line_text (line.LogEnd tail)) × StopsFor (disk.LogEnd tail) before after)

-- Why nothing was run on a disk. Where it failed or memory ran out, no more was done to it than to open its log.
abbrev pub NotOpened : Stop → Option (List Step) → Option (List Step) → ℕ → ℕ → Type 0
NotOpened stop.NoBase before after faults now = StopsFor disk.NoBase before after × (now ≡ faults)
NotOpened stop.DiskFault before after faults now = OnlyOpens before after × Rose faults now
NotOpened (stop.AtEnd text) before after faults now = TellsEnd text before after × (now ≡ faults)
NotOpened stop.Memory before after faults now = OnlyOpens before after × (now ≡ faults)
NotOpened stop before after faults now = ⊥

-- Why no checkpoint of a disk is told. Where it failed or memory ran out, each image at each moment recovers to the map found.
abbrev pub NotSaved : Stop → Option (List Step) → Option (List Step) → ℕ → ℕ → Type 0
NotSaved stop.DiskFault before after faults now = KeepsMap before after × Rose faults now
NotSaved stop.Memory before after faults now = KeepsMap before after × (now ≡ faults)
NotSaved stop before after faults now = NotOpened stop before after faults now

-- a script was run on a disk, to its end or until the disk failed, and a text is that of its report
pub record TellsRun (r : Running) (before after : Option (List Step)) (names : List (List ℕ)) (script : List ScriptLine) (text : List ℕ) : Type 0 where
  pub state : State
  pub found : IsFound before state
  pub lines : List Line
  pub ran : r.ran before after state names script lines
  pub text_is : text ≡ text_of lines

pub record TellsCut (r : Running) (before after : Option (List Step)) (names : List (List ℕ)) (script : List ScriptLine) (text : List ℕ) : Type 0 where
  pub state : State
  pub found : IsFound before state
  pub lines : List Line
  pub cut : r.cut before after state names script lines
  pub text_is : text ≡ text_of lines

-- no memory was left to tell of a script: nothing was run of it, and no more was done to the disk than to open its log, or it was run up to some line
abbrev pub LeavesScript : Running → List (List ℕ) → List ScriptLine → Option (List Step) → Option (List Step) → Type 0
LeavesScript r names script before after = OnlyOpens before after ⊎ ((state : State) × IsFound before state × r.starved before after state names script)

-- What there is to tell of a script's run. Where memory runs out, the disk may have failed before.
abbrev pub TellsRan : Running → Result (List ℕ) Stop → List (List ℕ) → List ScriptLine → Option (List Step) → Option (List Step) → ℕ → ℕ → Type 0
TellsRan r (Ok text) names script before after faults now = TellsRun r before after names script text × (now ≡ faults)
TellsRan r (Err (stop.Cut text)) names script before after faults now = TellsCut r before after names script text × Rose faults now
TellsRan r (Err stop.Memory) names script before after faults now = LeavesScript r names script before after × ((now ≡ faults) ⊎ Rose faults now)
TellsRan r (Err stop) names script before after faults now = NotOpened stop before after faults now

-- what there is to tell of a script by how its run ended: the text of its lines, which fit their types, why nothing was run, or that memory ran out
abbrev pub TellsEnded : Result (Vec Line Global) RunStop → Result (List ℕ) Stop → Type 0
TellsEnded (Ok lines) told = (All FitsTypes lines.items × (told ≡ Ok (text_of lines.items))) ⊎ (told ≡ Err stop.Memory)
TellsEnded (Err (run.DiskFault lines)) told = (All FitsTypes lines.items × (told ≡ Err (stop.Cut (text_of lines.items)))) ⊎ (told ≡ Err stop.Memory)
TellsEnded (Err (run.Unopened opened)) told = (why : Stop) × (told ≡ Err why)
    × ((before after : Option (List Step)) (faults now : ℕ) → StopsRun opened before after → CountsStop opened faults now → NotOpened why before after faults now)
TellsEnded (Err run.Memory) told = told ≡ Err stop.Memory

-- what there is to tell of what was found on a disk
abbrev pub TellsFound : Result (Vec Line Global) RecoverStop → Result (List ℕ) Stop → Type 0
TellsFound (Ok lines) told = (told ≡ Ok (text_of lines.items)) ⊎ (told ≡ Err stop.Memory)
TellsFound (Err recover.DiskFault) told = told ≡ Err stop.DiskFault
TellsFound (Err recover.NoBase) told = told ≡ Err stop.NoBase
TellsFound (Err recover.Memory) told = told ≡ Err stop.Memory

-- What there is to tell of a checkpoint. Where memory runs out, it may have been taken before, which keeps the map too.
abbrev pub TellsSaved : Result (List ℕ) Stop → Option (List Step) → Option (List Step) → ℕ → ℕ → Type 0
TellsSaved (Ok text) before after faults now = ((state : State) × IsFound before state × (lines : List Line)
    × WasCheckpointed before after state lines × (text ≡ text_of lines)) × (now ≡ faults)
TellsSaved (Err stop) before after faults now = NotSaved stop before after faults now

-- a text tells the counts of a report's lines
pub record TellsCounted (transactions sessions : ℕ) (lines : List Line) (text : List ℕ) : Type 0 where
  pub made : Made
  pub counts : AreCountsOf lines made
  pub text_is : text ≡ text_of (made_lines transactions sessions made)

-- the workload of so many transactions and sessions was run on a disk, and a text tells the counts of its report
pub record TellsCounts (transactions sessions : ℕ) (before after : Option (List Step)) (text : List ℕ) : Type 0 where
  pub state : State
  pub found : IsFound before state
  pub lines : List Line
  pub ran : WasRunOn in_lists before after state (names_of transactions sessions) (lines_of transactions sessions) lines
  pub counted : TellsCounted transactions sessions lines text

-- What there is to tell of a workload's run. Where memory runs out, the disk may have failed before.
abbrev pub TellsMaking : ℕ → ℕ → Result (List ℕ) Stop → Option (List Step) → Option (List Step) → ℕ → ℕ → Type 0
TellsMaking transactions sessions (Ok text) before after faults now = TellsCounts transactions sessions before after text × (now ≡ faults)
TellsMaking transactions sessions (Err stop.DiskFault) before after faults now = (OnlyOpens before after
    ⊎ ((state : State) × IsFound before state × (lines : List Line) × WasCutOn in_lists before after state (names_of transactions sessions) (lines_of transactions sessions) lines))
    × Rose faults now
TellsMaking transactions sessions (Err stop.Memory) before after faults now = LeavesScript (running_over in_lists) (names_of transactions sessions) (lines_of transactions sessions) before after
    × ((now ≡ faults) ⊎ Rose faults now)
TellsMaking transactions sessions (Err stop) before after faults now = NotOpened stop before after faults now
