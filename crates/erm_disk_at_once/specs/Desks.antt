-- A log that was opened on a disk, a table whose log goes on there, and the desk that writes it: what the runs of sessions at once rest on.
use Rattle.std.specs.Prelude.{◌≡◌, ℕ, ◌+◌, ◌<◌, ◌≤◌, ◌++◌, List, Option, Some, length}
use Rattle.erm_model.specs.Committed.{Committed, IsStateBelow}
use Rattle.erm_model.specs.Member.{◌∈◌}
use Rattle.erm_model.specs.RowTransaction.{SameRows}
use Rattle.erm_model.specs.declared.limits.TheConstants.{LAST_RUN, LEAST_BLOCK, SESSIONS, STOP, TABLE_CELLS}
use Rattle.erm_block.specs.declared.block.Block.{Block}
use Rattle.erm_outside.specs.Disk.{Image, Step, Tells}
use Rattle.erm_ckpt.specs.Recovered.{State, state_behind}
use Rattle.erm_ckpt.specs.States.{RecoversPast}
use Rattle.erm_ckpt.specs.declared.slot.Slots.{Slots}
use Rattle.erm_node.specs.Sound.{sound_law}
use Rattle.erm_node.specs.TreeMap.{map_of_rows}
use Rattle.erm_report.specs.declared.answer.Answer.{Answer}
use Rattle.erm_report.specs.declared.answer.Answer.TheVariants as answer
use Rattle.erm_report.specs.declared.line.Line.{Line}
use Rattle.erm_script.specs.declared.script.ScriptLine.{ScriptLine}
use Rattle.erm_world.specs.Log.{IsLog, Log}
use Rattle.erm_world.specs.Whole.{IsLogOf}
use Rattle.erm_world.specs.World.{View}
use Rattle.erm_lines.specs.Executions.{IsOpeningOf}
use Rattle.erm_told_crash.specs.Laws.{StandApart}
use Rattle.erm_good_report.specs.Opening.{Opening}
use Rattle.erm_good_report.specs.Stamps.{place_told}
use Rattle.erm_log_run.specs.Acknowledged.{IsAcknowledged}
use Rattle.erm_rule.specs.declared.view.Start.{Start}
use Rattle.erm_desk.specs.Desk.{IsDesk, Sees}
use Rattle.erm_desk.specs.Known.{opened_at}
use Rattle.erm_spare_names.specs.Spare.{NamesOnlyFirst}
use Rattle.erm_disk_run.specs.Crashes.{TellsCommits}
use Rattle.erm_disk_run.specs.Found.{StartsFrom}
use Rattle.erm_disk_run.specs.Opened.{OpensEachLog}

-- A log was opened on a state, and a table whose log goes on there: its rows are those of the state.
pub record OpensTable (state : State) (o : Start) : Type 0 where
  pub low : state.at < STOP
  pub run_low : state.run < LAST_RUN
  pub tail : o.tail ≡ state.at + LEAST_BLOCK
  pub run : o.run ≡ state.run + 1
  pub rows : SameRows (opened_at o).rows state.rows

-- a disk tells at the end what was done since it told before, and nothing where it told nothing
abbrev pub DiskTells : Option (List Step) → Option (List Step) → Type 0
DiskTells before after = Tells (λ old new. (more : List Step) × (new ≡ more ++ old)) before after

-- A table was opened on a state and its log on a disk, and this is the table's desk now. The disk told what was done before, when the log
-- had been opened, and tells what the desk did.
pub record HasDesk (state : State) (slots : Slots) (o : Start) (before mid : Option (List Step)) (faults : ℕ) (d : Sees) : Type 0 where
  pub table : OpensTable state o
  pub opens : OpensEachLog state slots before mid
  pub desk : IsDesk sound_law o mid faults d
  pub tells : DiskTells mid d.told

-- Blocks that stand from a start on stand for the commits told: behind each front of them the rows are those of the state below the place there, in the
-- run behind the one found. The start, and each commit, lies behind the block that opened the log. An image that recovers to such a front has just the
-- commits told below the place there.
pub record StandFor (told : List Committed) (state start : State) (blocks : List Block) : Type 0 where
  pub behind : start.at ≡ state.at + LEAST_BLOCK
  pub states : (front rest : List Block) → blocks ≡ front ++ rest
      → IsStateBelow told (map_of_rows state.rows) (state_behind start front).at (map_of_rows (state_behind start front).rows)
  pub runs : (front rest : List Block) → blocks ≡ front ++ rest → (state_behind start front).run ≡ state.run + 1
  pub later : (c : Committed) → c ∈ told → state.at + LEAST_BLOCK ≤ c.stamp
  pub logged : (place : ℕ) (image : Image) → RecoversPast sound_law.meets start blocks place image → TellsCommits told state image

-- each place that lines acknowledge, one of these answers tells
abbrev pub AnswersTell : List Answer → List Line → Type 0
AnswersTell answers lines = (place : ℕ) (is : IsAcknowledged lines place) → is.answer ∈ answers

-- Of these answers only those that a session's last commit is on the disk tell a place, which is at or below this one.
abbrev pub AreAcknowledged : ℕ → List Answer → Type 0
AreAcknowledged end answers = (a : Answer) → a ∈ answers → (place : ℕ) → place_told a ≡ Some place → (stamp : ℕ) × (a ≡ answer.Durable stamp) × (place ≤ end)

-- A world has a log of sound rows, with these blocks, that goes on where the table was opened; the ranges that transactions take of it stand apart.
pub record HasLogged (o : Start) (blocks : List Block) (f : View) : Type 0 where
  pub log : Log
  pub is : IsLog sound_law.meets log
  pub of_view : IsLogOf f log
  pub gathered : log.gathered ≡ blocks
  pub opened : log.opened ≡ opened_at o
  pub apart : StandApart f

-- A report of a script starts from a state and from the view of a table that was opened on it. The table has sessions for the script's names and for
-- spare ones behind them, of which no line is, and no more than there may be.
pub record StartsReport (state : State) (names spare : List (List ℕ)) (script : List ScriptLine) (opening : Opening) (v : View) : Type 0 where
  pub starts : StartsFrom state opening
  pub view : IsOpeningOf v opening
  pub cuts : v.opening.cuts ≡ TABLE_CELLS
  pub cells : v.opening.cells ≡ TABLE_CELLS
  pub sessions : v.opening.sessions ≡ length (names ++ spare)
  pub few : v.opening.sessions ≤ SESSIONS
  pub first : NamesOnlyFirst (length names) script
