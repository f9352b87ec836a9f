-- How the command `make` ends.
use Rattle.std.specs.Prelude.{◌≡◌, ◌≢◌, ℕ, ◌+◌, ◌⊎◌, Bool, true, false, List}
use Rattle.erm_ckpt.specs.Recovered.{State}
use Rattle.erm_outside.specs.Faults.{Rose}
use Rattle.erm_report.specs.Texts.{text_of}
use Rattle.erm_report.specs.declared.line.Line.{Line}
use Rattle.erm_report.specs.declared.line.Line.TheVariants as line
use Rattle.erm_script.specs.declared.script.ScriptLine.{ScriptLine}
use Rattle.erm_make.specs.Texts.{lines_but_flushes, script_text}
use Rattle.erm_make.specs.Workload.{names_of, numbered, workload}
use Rattle.erm_made.specs.declared.counts.Made.{Made}
use Rattle.erm_made.specs.Counts.{count, is_commit, is_exclusion, is_pair, leaves_open, made_lines, meets_owner, tells}
use Rattle.erm_disk_run.specs.declared.stops.DiskStop.TheVariants as disk
use Rattle.erm_disk_run.specs.Found.{IsFound}
use Rattle.erm_disk_run.specs.Limits.{in_lists}
use Rattle.erm_disk_run.specs.Runs.{WasCutOn, WasRunOn, WasStarvedOn}
use Rattle.erm_disk_run.specs.Stops.{OnlyOpens, StopsFor}
use Rattle.erm_top.specs.Around.{Around, LeavesDisk, LeavesSource, PrintsLine, PutsCut, PutsWhole}
use Rattle.erm_top.specs.Runs.{HasRoom, IsAtEnd, NothingFailed}

-- the lines of the workload of so many transactions and sessions
abbrev pub lines_of : ℕ → ℕ → List ScriptLine
lines_of transactions sessions = numbered 1 (workload transactions sessions)

-- the counts of a report's lines
pub record AreCountsOf (lines : List Line) (made : Made) : Type 0 where
  pub committed : made.committed ≡ count (tells is_commit) lines
  pub excluded : made.excluded ≡ count (tells is_exclusion) lines
  pub owned : made.owned ≡ count (tells meets_owner) lines
  pub pairs : made.pairs ≡ count is_pair lines

-- The workload of so many transactions and sessions was run on the disk, and the counts of its report are told.
pub record TellsMade (transactions sessions : ℕ) (a : Around) (text : List ℕ) : Type 0 where
  pub state : State
  pub found : IsFound a.told_before state
  pub lines : List Line
  pub ran : WasRunOn in_lists a.told_before a.told_after state (names_of transactions sessions) (lines_of transactions sessions) lines
  pub made : Made
  pub counts : AreCountsOf lines made
  -- where no line leaves a transaction open, each of them is counted: the sixteen that load, and the others
  pub adds_up : count (tells leaves_open) lines ≡ 0 → made.committed + made.excluded + made.owned ≡ 16 + transactions
  pub text_is : text ≡ text_of (made_lines transactions sessions made)

-- the disk failed before the workload was run, with no more done than to open its log, or while it was run
abbrev pub FailsMaking : ℕ → ℕ → Around → Type 0
FailsMaking transactions sessions a = OnlyOpens a.told_before a.told_after
    ⊎ ((state : State) × IsFound a.told_before state
    × ((lines : List Line) × WasCutOn in_lists a.told_before a.told_after state (names_of transactions sessions) (lines_of transactions sessions) lines))

-- What is left on the disk where memory ran out: it is as it was, or no more was done than to open its log, or the workload was run up to some line.
abbrev pub LeftByMaking : ℕ → ℕ → Around → Type 0
LeftByMaking transactions sessions a = OnlyOpens a.told_before a.told_after
    ⊎ ((state : State) × IsFound a.told_before state × WasStarvedOn in_lists a.told_before a.told_after state (names_of transactions sessions) (lines_of transactions sessions))

-- what each status means of `make` where the workload is run
pub record MakeEnds (transactions sessions status : ℕ) (a : Around) : Type 0 where
  pub known : (status ≡ 0) ⊎ (status ≡ 5) ⊎ (status ≡ 6) ⊎ (status ≡ 7) ⊎ (status ≡ 8) ⊎ (status ≡ 10)
  pub success : status ≡ 0 → (text : List ℕ) × TellsMade transactions sessions a text × PutsWhole text a
  pub sink_fault : status ≡ 5 → (text : List ℕ) × TellsMade transactions sessions a text × PutsCut text a
  pub disk_fault : status ≡ 6 → Rose a.disk_before a.disk_after × PrintsLine line.DiskFault a × FailsMaking transactions sessions a
  pub no_base : status ≡ 7 → PrintsLine line.NoBase a × StopsFor disk.NoBase a.told_before a.told_after
  pub no_memory : status ≡ 8 → PrintsLine line.NoMemory a × LeftByMaking transactions sessions a
  pub at_end : status ≡ 10 → IsAtEnd a
  pub source : LeavesSource a
  -- The disk did not fail with another status, unless no memory was left when it had.
  pub disk_sound : status ≢ 6 → (a.disk_after ≡ a.disk_before) ⊎ ((status ≡ 8) × Rose a.disk_before a.disk_after)
  -- It is run where nothing fails, unless memory runs out or the disk has no room.
  pub complete : NothingFailed a → (status ≡ 0) ⊎ (status ≡ 7) ⊎ (status ≡ 8) ⊎ (status ≡ 10)
  pub room : HasRoom a → (status ≢ 7) × (status ≢ 10)

-- the text of the workload, without its flushes
abbrev pub workload_text : ℕ → ℕ → List ℕ
workload_text transactions sessions = script_text (names_of transactions sessions) (lines_but_flushes (lines_of transactions sessions))

-- what each status means of `make` where the text is asked for
pub record MakeTextEnds (transactions sessions status : ℕ) (a : Around) : Type 0 where
  pub known : (status ≡ 0) ⊎ (status ≡ 5) ⊎ (status ≡ 8)
  pub success : status ≡ 0 → PutsWhole (workload_text transactions sessions) a
  pub sink_fault : status ≡ 5 → PutsCut (workload_text transactions sessions) a
  pub no_memory : status ≡ 8 → PrintsLine line.NoMemory a
  pub source : LeavesSource a
  pub disk : LeavesDisk a
  pub complete : NothingFailed a → (status ≡ 0) ⊎ (status ≡ 8)

-- the workload is run, or its text is printed
abbrev pub MakeCommandEnds : ℕ → ℕ → Bool → ℕ → Around → Type 0
MakeCommandEnds transactions sessions true status a = MakeTextEnds transactions sessions status a
MakeCommandEnds transactions sessions false status a = MakeEnds transactions sessions status a
