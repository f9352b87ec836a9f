-- Checkpoints of a log: what a disk holds of it, and what taking one does and answers.
use Rattle.std.specs.Prelude.{◌≡◌, ◌≢◌, ◌<◌, ◌≤◌, ◌⊎◌, ◌++◌, ℕ, Bool, false, IsSome, IsTrue, List, [], Some, None, Result, Ok, Err}
use Rattle.erm_bytes.specs.Bytes.{bytes_of}
use Rattle.erm_model.specs.declared.limits.TheConstants.{OID_LIMIT}
use Rattle.erm_model.specs.Rows.{Rows}
use Rattle.erm_block.specs.declared.block.Block.{Block}
use Rattle.erm_flush.specs.Turns.{GoesOn, IsReady, start_of, WritesFrom}
use Rattle.erm_block.specs.LogList.{end_of, IsLogList}
use Rattle.erm_log_words.specs.Tears.{ShowsBlocks}
use Rattle.erm_log_words.specs.Words.{word_at}
use Rattle.erm_outside.specs.Disk.{contents, Image, Step}
use Rattle.erm_outside.specs.Faults.{Rose}
use Rattle.erm_world.specs.Log.{IsWait, Log}
use Rattle.erm_ckpt.specs.declared.slot.Slot.{Slot}
use Rattle.erm_ckpt.specs.declared.slot.Slots.{Slots}
use Rattle.erm_ckpt.specs.declared.slot.TheConstants.{LOG_START}
use Rattle.erm_ckpt.specs.Checkpoint.{Checkpoint, slot_words}
use Rattle.erm_ckpt.specs.Recovered.{Pair, State, base, best, end_at, slots_of, state_behind}
use Rattle.erm_ckpt.specs.Slots.{next_first, removal_end}
use Rattle.erm_ckpt.specs.States.{MeetsLast, RecoversPast, RecoversTo}
use Rattle.erm_checkpoint.specs.declared.stops.CheckpointStop.{CheckpointStop}
use Rattle.erm_checkpoint.specs.declared.stops.CheckpointStop.TheVariants.{DiskFault, Failed, NotYet, Unfilled}
use Rattle.erm_checkpoint.specs.Phases.{MaySave, other_file}
use Rattle.erm_checkpoint.specs.Steps.{SavesAll, SavesPart}

-- the state of a log behind blocks that stand from its start on
abbrev pub state_at : Log → List Block → State
state_at log front = state_behind (record { at = log.opened.at; run = log.opened.run; rows = log.opened.rows }) front

-- A disk holds a log as far as it is flushed: nothing is pending, and the disk recovers from these slots to the state at the place
-- flushed, where no block of the log's run or a later one reads. Where no slot checks, the log's first word is there. Of the log's blocks up to the
-- place flushed recovery meets all, or those from the place on where it begins.
pub record HoldsLog (sound : Rows → Type 0) (log : Log) (slots : Slots) (steps : List Step) : Type 0 where
  pub ready : IsReady log steps
  pub pair : Pair
  pub names : slots ≡ slots_of pair
  pub begins : best pair ≡ None → (word : ℕ) × (word_at (contents steps) LOG_START ≡ Some word)
  pub front : List Block
  pub rest : List Block
  pub split : log.gathered ≡ front ++ rest
  pub to : (state_at log front).at ≡ log.flushed
  pub there : RecoversTo sound (state_at log front) pair (contents steps)
  pub meets : MeetsLast (state_at log []) front (base pair) there.blocks

-- and the best slot is of this place
pub record HoldsLogFrom (sound : Rows → Type 0) (log : Log) (slots : Slots) (stamp : ℕ) (steps : List Step) : Type 0 where
  pub holds : HoldsLog sound log slots steps
  pub some : best holds.pair ≢ None
  pub from : (base holds.pair).at ≡ stamp

-- A disk holds a log as far as it is flushed, and past a place at or above that where recovery begins: these blocks are all that it holds from
-- there on.
pub record HoldsLogPast (sound : Rows → Type 0) (log : Log) (slots : Slots) (place : ℕ) (steps : List Step) : Type 0 where
  pub holds : HoldsLog sound log slots steps
  pub front : List Block
  pub blocks : List Block
  pub split : holds.front ≡ front ++ blocks
  pub at : (state_at log front).at ≡ place
  pub list : IsLogList sound (end_at (contents steps) (state_at log front)) blocks
  pub low : (base holds.pair).at ≤ place

-- Where an image shows each of these blocks, which were gathered behind a front, whole or no block, it recovers to the state behind
-- a front of all that was gathered: to all below a place at least.
abbrev pub RecoversFlushing : (Rows → Type 0) → ℕ → Log → List Block → List Block → Image → Type 0
RecoversFlushing sound place log front blocks image =
    ShowsBlocks image (end_of (start_of log) front).at (end_of (start_of log) front).run blocks → RecoversPast sound (state_at log []) log.gathered place image

-- A checkpoint was saved to a disk from which it may be saved, or that was begun: it holds the log's state at the place flushed.
pub record SavesLog (sound : Rows → Type 0) (log : Log) (slots : Slots) (slot : Slot) (old new : List Step) : Type 0 where
  pub holds : HoldsLog sound log slots old
  pub checkpoint : Checkpoint
  pub slot_is : checkpoint.slot ≡ slot
  pub may : MaySave sound (state_at log holds.front) [] [] holds.pair checkpoint old
  pub saves : SavesPart (other_file holds.pair) (bytes_of (slot_words checkpoint)) 0 (removal_end slots) old new
      ⊎ SavesAll (other_file holds.pair) (bytes_of (slot_words checkpoint)) 0 (removal_end slots) old new

-- A checkpoint was saved to a disk that holds a log past its place, or that was begun: it holds the log's state there.
pub record SavesLogPast (sound : Rows → Type 0) (log : Log) (slots : Slots) (slot : Slot) (old new : List Step) : Type 0 where
  pub holds : HoldsLogPast sound log slots slot.stamp old
  pub checkpoint : Checkpoint
  pub slot_is : checkpoint.slot ≡ slot
  pub may : MaySave sound (state_at log holds.front) [] holds.blocks holds.holds.pair checkpoint old
  pub saves : SavesPart (other_file holds.holds.pair) (bytes_of (slot_words checkpoint)) 0 (removal_end slots) old new
      ⊎ SavesAll (other_file holds.holds.pair) (bytes_of (slot_words checkpoint)) 0 (removal_end slots) old new

-- All of that was done: the slot was written and waited for, and then exactly those segments below that of the best slot's place that had bytes
-- were removed, each waited for.
pub record SavedLogPast (sound : Rows → Type 0) (log : Log) (slots : Slots) (slot : Slot) (old new : List Step) : Type 0 where
  pub holds : HoldsLogPast sound log slots slot.stamp old
  pub checkpoint : Checkpoint
  pub slot_is : checkpoint.slot ≡ slot
  pub may : MaySave sound (state_at log holds.front) [] holds.blocks holds.holds.pair checkpoint old
  pub saves : SavesAll (other_file holds.holds.pair) (bytes_of (slot_words checkpoint)) 0 (removal_end slots) old new

-- What is done to a disk where a checkpoint is taken: a log is flushed from the place where it was, and then, if it comes to that,
-- the checkpoint is saved.
pub record Takes (sound : Rows → Type 0) (place : ℕ) (log : Log) (slots : Slots) (slot : Slot) (old new : List Step) : Type 0 where
  pub mid : List Step
  pub flushes : WritesFrom sound place log old mid
  pub saves : (new ≡ mid) ⊎ SavesLog sound log slots slot mid new

-- All of that was done: the log was flushed, the checkpoint's slot was written and waited for, and then exactly those segments below that of
-- the best slot's place that had bytes were removed, each waited for: those too whose removal a stop had cut off.
pub record TakesAll (sound : Rows → Type 0) (place : ℕ) (log : Log) (slots : Slots) (slot : Slot) (old new : List Step) : Type 0 where
  pub mid : List Step
  pub flushes : WritesFrom sound place log old mid
  pub holds : HoldsLog sound log slots mid
  pub checkpoint : Checkpoint
  pub slot_is : checkpoint.slot ≡ slot
  pub may : MaySave sound (state_at log holds.front) [] [] holds.pair checkpoint mid
  pub saves : SavesAll (other_file holds.pair) (bytes_of (slot_words checkpoint)) 0 (removal_end slots) mid new

-- a log goes on, at its end too
pub record GoesOnTo (l m : Log) : Type 0 where
  pub log : m ≡ record l { tail = m.tail; gathered = m.gathered; flushed = m.flushed }
  pub tail : l.tail ≤ m.tail
  pub more : (rest : List Block) × (m.gathered ≡ l.gathered ++ rest)
  pub further : l.flushed ≤ m.flushed

-- the log pinned at its end
abbrev pub pinned_at_end : Log → Log
pinned_at_end log = record log { pinned = Some log.tail }

-- What taking a checkpoint as of a pinned place answers, by the log before and after, and by whether the flusher had failed before
-- and has failed after.
abbrev pub TakesAt : Result Unit CheckpointStop → Bool → Bool → Log → Log → Type 0
TakesAt (Ok _) was now l m = (was ≡ false) × (now ≡ false) × GoesOn l m × (m.flushed ≡ m.tail)
TakesAt (Err (Unfilled at)) was now l m = (was ≡ false) × (now ≡ false) × GoesOn l m × (m.flushed ≡ at) × (at < m.tail) × IsSome (m.undecided at)
TakesAt (Err (NotYet seat seen)) was now l m =
    (was ≡ false) × (now ≡ false) × GoesOn l m × (m.flushed ≡ m.tail) × ((oid : ℕ) × (oid < OID_LIMIT) × IsWait m oid (record { seat = seat; seen = seen }))
TakesAt (Err DiskFault) was now l m = (was ≡ false) × IsTrue now × GoesOn l m
TakesAt (Err Failed) was now l m = IsTrue was × IsTrue now × (m ≡ l)

-- the disk's count of faults rose exactly where that is the answer
abbrev pub Counts : {T : Type 0} → Result T CheckpointStop → ℕ → ℕ → Type 0
Counts (Err DiskFault) before now = Rose before now
Counts _ before now = now ≡ before

-- the slot of a checkpoint of a log, as of its end
abbrev pub slot_at_end : Log → ℕ → Slots → Slot
slot_at_end log run slots = record { stamp = log.tail; run = run; first = next_first slots }

-- What a checkpoint turn answers, by the log before and after, and by whether the flusher had failed before and has failed after.
-- The log's end is the place that was pinned.
abbrev pub Checkpoints : Result ℕ CheckpointStop → Bool → Bool → Log → Log → Type 0
Checkpoints (Ok stamp) was now l m = (was ≡ false) × (now ≡ false) × GoesOnTo l m × (m.tail ≡ stamp) × (m.flushed ≡ stamp)
Checkpoints (Err (Unfilled at)) was now l m = (was ≡ false) × (now ≡ false) × GoesOnTo l m × (m.flushed ≡ at) × (at < m.tail) × IsSome (m.undecided at)
Checkpoints (Err (NotYet seat seen)) was now l m =
    (was ≡ false) × (now ≡ false) × GoesOnTo l m × (m.flushed ≡ m.tail)
    × ((oid : ℕ) × (oid < OID_LIMIT) × IsWait (pinned_at_end m) oid (record { seat = seat; seen = seen }))
Checkpoints (Err DiskFault) was now l m = (was ≡ false) × IsTrue now × GoesOnTo l m
Checkpoints (Err Failed) was now l m = IsTrue was × IsTrue now × (m ≡ record l { tail = m.tail }) × (l.tail ≤ m.tail)
