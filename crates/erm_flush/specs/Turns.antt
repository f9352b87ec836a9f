-- Flush turns: what one does to a world's log and to the disk, and what it answers.
use Rattle.std.specs.Prelude.{◌≡◌, ℕ, ◌<◌, ◌≤◌, Bool, false, IsTrue, List, [], ◌++◌, length, Option, None, Result, Ok, Err, IsSome}
use Rattle.erm_model.specs.Rows.{Rows}
use Rattle.erm_model.specs.declared.limits.TheConstants.{RING_WORDS}
use Rattle.erm_block.specs.declared.block.Block.{Block}
use Rattle.erm_block.specs.LogList.{End, end_of}
use Rattle.erm_flush.specs.declared.stops.FlushStop.{FlushStop}
use Rattle.erm_flush.specs.declared.stops.FlushStop.TheVariants.{Empty, Unfilled, DiskFault, Failed}
use Rattle.erm_flush.specs.Blocks.{HoldsBlocks, WritesBlocks}
use Rattle.erm_log_disk.specs.Writes.{AllWriteWords}
use Rattle.erm_log_words.specs.Tears.{IsFresh}
use Rattle.erm_outside.specs.Disk.{contents, IsSettled, Step}
use Rattle.erm_outside.specs.Faults.{Rose}
use Rattle.erm_world.specs.Log.{gathered_to, IsStop, Log}

-- where a log's blocks begin; the words of this end aren't looked at
abbrev pub start_of : Log → End
start_of log = record { words = []; at = log.opened.at; run = log.opened.run; rows = log.opened.rows }

-- A log may be flushed to a disk: nothing is pending there, and at or behind the place flushed no block of the log's run or a
-- later one reads.
pub record IsReady (log : Log) (steps : List Step) : Type 0 where
  pub settled : IsSettled steps
  pub fresh : IsFresh log.opened.run (contents steps) log.flushed

-- these steps write some of a few words from a place on, as many as a flusher takes at once, or wait
abbrev pub WritesFew : ℕ → List Step → Type 0
WritesFew place more = (words : List ℕ) × (length words ≤ RING_WORDS) × AllWriteWords place words more

-- blocks of a log were gathered from a place on, and all that was done to a disk was to write them: no more than are taken at once
pub record WritesFrom (sound : Rows → Type 0) (place : ℕ) (log : Log) (old new : List Step) : Type 0 where
  pub front : List Block
  pub blocks : List Block
  pub split : log.gathered ≡ front ++ blocks
  pub place_is : (end_of (start_of log) front).at ≡ place
  pub writes : WritesBlocks sound (end_of (start_of log) front) blocks old new
  pub few : WritesFew place writes.more

-- the blocks of a log from a place up to the one flushed all last
pub record HoldsFrom (sound : Rows → Type 0) (place : ℕ) (log : Log) (old new : List Step) : Type 0 where
  pub front : List Block
  pub blocks : List Block
  pub rest : List Block
  pub split : log.gathered ≡ front ++ (blocks ++ rest)
  pub from : (end_of (start_of log) front).at ≡ place
  pub to : (end_of (end_of (start_of log) front) blocks).at ≡ log.flushed
  pub holds : HoldsBlocks sound (end_of (start_of log) front) blocks old new

-- a log goes on: blocks were gathered, and it is flushed further or as far as before; nothing else of it changed
pub record GoesOn (l m : Log) : Type 0 where
  pub log : m ≡ record l { gathered = m.gathered; flushed = m.flushed }
  pub more : (rest : List Block) × (m.gathered ≡ l.gathered ++ rest)
  pub further : l.flushed ≤ m.flushed

-- A log was gathered from the place flushed on, where a decided range begins, up to the first stop: its end, or a range that
-- isn't decided.
pub record DidGather (l m : Log) : Type 0 where
  pub goes_on : GoesOn l m
  pub waits : l.flushed < l.tail
  pub decided : l.undecided l.flushed ≡ None
  pub above : l.flushed < gathered_to m
  pub stops : IsStop m (gathered_to m)

-- What a turn answers, by the log before and after, and by whether the flusher had failed before and has failed after. It
-- answers `Empty` exactly where the log's end is flushed, and `Unfilled` exactly where a range that isn't decided begins there.
abbrev pub Turns : Result ℕ FlushStop → Bool → Bool → Log → Log → Type 0
Turns (Ok end) was now l m = (was ≡ false) × (now ≡ false) × DidGather l m × (m.flushed ≡ end) × (end ≡ gathered_to m)
Turns (Err (Empty at)) was now l m = (was ≡ false) × (now ≡ false) × (m ≡ l) × (at ≡ l.flushed) × (l.tail ≡ l.flushed)
Turns (Err (Unfilled at)) was now l m = (was ≡ false) × (now ≡ false) × (m ≡ l) × (at ≡ l.flushed) × (l.flushed < l.tail) × IsSome (l.undecided l.flushed)
Turns (Err DiskFault) was now l m = (was ≡ false) × IsTrue now × DidGather l m × (m.flushed ≡ l.flushed)
Turns (Err Failed) was now l m = IsTrue was × IsTrue now × (m ≡ l)

-- the disk's count of faults rose exactly where that is the answer
abbrev pub Counts : Result ℕ FlushStop → ℕ → ℕ → Type 0
Counts (Err DiskFault) before now = Rose before now
Counts _ before now = now ≡ before

-- what is told of the disk is the same, where nothing was gathered
abbrev pub Stays : Result ℕ FlushStop → Option (List Step) → Option (List Step) → Type 0
Stays (Err (Empty at)) before after = after ≡ before
Stays (Err (Unfilled at)) before after = after ≡ before
Stays (Err Failed) before after = after ≡ before
Stays _ before after = Unit {0}

-- What turns until one stops answer: what stopped the last, by the log before the first and after the last, and by whether the
-- flusher had failed before and has failed after.
abbrev pub TurnsAll : FlushStop → Bool → Bool → Log → Log → Type 0
TurnsAll (Empty at) was now l m = (was ≡ false) × (now ≡ false) × GoesOn l m × (m.flushed ≡ at) × (m.tail ≡ at)
TurnsAll (Unfilled at) was now l m = (was ≡ false) × (now ≡ false) × GoesOn l m × (m.flushed ≡ at) × (at < m.tail) × IsSome (m.undecided at)
TurnsAll DiskFault was now l m = (was ≡ false) × IsTrue now × GoesOn l m
TurnsAll Failed was now l m = IsTrue was × IsTrue now × (m ≡ l)
