-- How the commands `run` and `threads` end.
use Rattle.std.specs.Prelude.{◌≡◌, ◌≢◌, ℕ, ◌+◌, ◌<◌, ◌≤◌, ◌⊎◌, List, length, Some}
use Rattle.erm_ckpt.specs.Recovered.{State}
use Rattle.erm_model.specs.declared.limits.TheConstants.{LAST_RUN, STOP}
use Rattle.erm_outside.specs.Disk.{Step}
use Rattle.erm_outside.specs.Faults.{Rose}
use Rattle.erm_report.specs.Texts.{text_of}
use Rattle.erm_report.specs.declared.line.Line.{Line}
use Rattle.erm_report.specs.declared.line.Line.TheVariants as line
use Rattle.erm_script.specs.declared.fault.FaultKind.{FaultKind}
use Rattle.erm_script.specs.declared.script.ScriptLine.{ScriptLine}
use Rattle.erm_script.specs.Faults.{IsFirstBadLine}
use Rattle.erm_script.specs.Script.{IsScript}
use Rattle.erm_disk_run.specs.declared.stops.DiskStop.TheVariants as disk
use Rattle.erm_disk_run.specs.Found.{IsFound, ReadsAs}
use Rattle.erm_disk_run.specs.Stops.{OnlyOpens, StopsFor}
use Rattle.erm_top.specs.Around.{Around, LeavesDisk, PrintsLine, PrintsText, PutsCut, PutsWhole, TakesAtMost, TakesMore, WasReadWith}
use Rattle.erm_top.specs.Running.{Running, running_at_once, running_in_turn}
use Rattle.erm_top.specs.declared.reading.TheConstants.{SCRIPT_BYTES}

-- Bytes spell a script, which was run on the disk: a text is that of its report.
pub record Reports (r : Running) (a : Around) (bytes text : List ℕ) : Type 0 where
  pub names : List (List ℕ)
  pub script : List ScriptLine
  pub spelled : IsScript r.grammar bytes names script
  pub state : State
  pub found : IsFound a.told_before state
  pub lines : List Line
  pub ran : r.ran a.told_before a.told_after state names script lines
  pub text_is : text ≡ text_of lines

-- Bytes spell a script, which was run on the disk until it failed: a text is that of its report up to then.
pub record ReportsCut (r : Running) (a : Around) (bytes text : List ℕ) : Type 0 where
  pub names : List (List ℕ)
  pub script : List ScriptLine
  pub spelled : IsScript r.grammar bytes names script
  pub state : State
  pub found : IsFound a.told_before state
  pub lines : List Line
  pub cut : r.cut a.told_before a.told_after state names script lines
  pub text_is : text ≡ text_of lines

-- Bytes spell a script, which was run on the disk up to some of its lines, or to its end: memory ran out meanwhile, or for its report.
pub record Starved (r : Running) (a : Around) (bytes : List ℕ) : Type 0 where
  pub names : List (List ℕ)
  pub script : List ScriptLine
  pub spelled : IsScript r.grammar bytes names script
  pub state : State
  pub found : IsFound a.told_before state
  pub was : r.starved a.told_before a.told_after state names script

-- What is left on the disk where memory ran out: it is as it was, or no more was done than to open its log, or a script was run up to some of its lines.
abbrev pub LeftByMemory : Running → Around → Type 0
LeftByMemory r a = OnlyOpens a.told_before a.told_after ⊎ WasReadWith (Starved r a) a

-- bytes spell a script
abbrev pub SpellScript : Running → List ℕ → Type 0
SpellScript r bytes = (names : List (List ℕ)) × (script : List ScriptLine) × IsScript r.grammar bytes names script

-- the bytes taken are those of no script, and the first bad line was printed with its first kind of fault
pub record Refused (r : Running) (a : Around) : Type 0 where
  pub number : ℕ
  pub kind : FaultKind
  pub read : WasReadWith (λ bytes. IsFirstBadLine r.grammar bytes number kind) a
  pub printed : PrintsLine (line.BadLine number kind) a

-- The disk failed: before anything was run, with no more done than to open its log, which is printed alone; or while the script was run, and the report
-- up to then was printed.
abbrev pub FailsOnDisk : Running → Around → Type 0
FailsOnDisk r a = (WasReadWith (SpellScript r) a × PrintsLine line.DiskFault a × OnlyOpens a.told_before a.told_after)
    ⊎ ((text : List ℕ) × WasReadWith (λ bytes. ReportsCut r a bytes text) a × PrintsText text a)

-- nothing comes behind what the disk holds: no run, or no place in the log, which was printed
abbrev pub IsAtEnd : Around → Type 0
IsAtEnd a = ((run : ℕ) × PrintsLine (line.RunsEnd run) a × StopsFor (disk.RunsEnd run) a.told_before a.told_after)
    ⊎ ((tail : ℕ) × PrintsLine (line.LogEnd tail) a × StopsFor (disk.LogEnd tail) a.told_before a.told_after)

-- the disk tells that it recovers to a state
pub record TellsState (state : State) (a : Around) : Type 0 where
  pub steps : List Step
  pub told : a.told_before ≡ Some steps
  pub reads : ReadsAs state steps

-- it recovers to a state behind which a run and a place of the log come
pub record HasRoom (a : Around) : Type 0 where
  pub state : State
  pub tells : TellsState state a
  pub run : state.run < LAST_RUN
  pub place : state.at < STOP

-- nothing failed
pub record NothingFailed (a : Around) : Type 0 where
  pub source : Rose a.source_before a.source_after → ⊥
  pub sink : Rose a.sink_before a.sink_after → ⊥
  pub disk : Rose a.disk_before a.disk_after → ⊥

-- what each status means of a command that reads a script and runs it so
pub record ScriptEnds (r : Running) (status : ℕ) (a : Around) : Type 0 where
  pub known : (status ≡ 0) ⊎ (status ≡ 3) ⊎ (status ≡ 4) ⊎ (status ≡ 5) ⊎ (status ≡ 6) ⊎ (status ≡ 7) ⊎ (status ≡ 8) ⊎ (status ≡ 9) ⊎ (status ≡ 10)
  -- The report of the script that was read was put, or its front before the sink failed.
  pub success : status ≡ 0 → (text : List ℕ) × WasReadWith (λ bytes. Reports r a bytes text) a × PutsWhole text a
  pub sink_fault : status ≡ 5 → (text : List ℕ) × WasReadWith (λ bytes. Reports r a bytes text) a × PutsCut text a
  pub bad_line : status ≡ 3 → Refused r a × LeavesDisk a
  pub read_fault : status ≡ 4 → Rose a.source_before a.source_after × PrintsLine line.ReadFault a × LeavesDisk a
  pub disk_fault : status ≡ 6 → Rose a.disk_before a.disk_after × FailsOnDisk r a
  pub no_base : status ≡ 7 → WasReadWith (SpellScript r) a × PrintsLine line.NoBase a × StopsFor disk.NoBase a.told_before a.told_after
  pub no_memory : status ≡ 8 → PrintsLine line.NoMemory a × LeftByMemory r a
  pub too_long : status ≡ 9 → TakesMore SCRIPT_BYTES a × PrintsLine line.TooLong a × LeavesDisk a
  pub at_end : status ≡ 10 → WasReadWith (SpellScript r) a × IsAtEnd a
  -- Source and disk did not fail with another status, unless the disk failed and no memory was left for the report up to then, or for another of
  -- the sessions that run at once. And no more bytes are taken than these.
  pub source_sound : status ≢ 4 → a.source_after ≡ a.source_before
  pub disk_sound : status ≢ 6 → (a.disk_after ≡ a.disk_before) ⊎ ((status ≡ 8) × Rose a.disk_before a.disk_after)
  pub taken : TakesAtMost (SCRIPT_BYTES + 1) a
  -- A script that is not too long is run where nothing fails, unless memory runs out or the disk has no room.
  pub complete : (bytes : List ℕ) → a.left_before ≡ Some bytes → length bytes ≤ SCRIPT_BYTES → SpellScript r bytes → NothingFailed a
      → (status ≡ 0) ⊎ (status ≡ 7) ⊎ (status ≡ 8) ⊎ (status ≡ 10)
  pub room : HasRoom a → (status ≢ 7) × (status ≢ 10)

-- what each status of `run` means
abbrev pub RunEnds : ℕ → Around → Type 0
RunEnds status a = ScriptEnds running_in_turn status a

-- what each status of `threads` means
abbrev pub ThreadsEnds : ℕ → Around → Type 0
ThreadsEnds status a = ScriptEnds running_at_once status a
