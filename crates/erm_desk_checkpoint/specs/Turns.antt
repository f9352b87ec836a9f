-- Turns that flush a log up to a place: what they do to a desk.
use Rattle.std.specs.Prelude.{◌≡◌, ℕ, ◌+◌, ◌<◌, ◌≤◌, true, false, List, [], ◌++◌, length, Some, IfSome, Result, Ok, Err}
use Rattle.erm_block.specs.declared.block.Block.{Block}
use Rattle.erm_checkpoint.specs.declared.stops.CheckpointStop.{CheckpointStop}
use Rattle.erm_checkpoint.specs.declared.stops.CheckpointStop.TheVariants.{DiskFault, Failed, NotYet, Unfilled}
use Rattle.erm_checkpoint.specs.Taken.{HoldsLog, HoldsLogPast, state_at}
use Rattle.erm_ckpt.specs.declared.slot.Slots.{Slots}
use Rattle.erm_ckpt.specs.declared.slot.TheConstants.{LOG_START}
use Rattle.erm_crash.specs.Kept.{KeepsBlocks}
use Rattle.erm_desk.specs.Desk.{Sees}
use Rattle.erm_desk.specs.Known.{KnowsBlocks, KnowsLog}
use Rattle.erm_desk.specs.Turns.{FlushSteps}
use Rattle.erm_flush.specs.declared.stops.FlushStop.{FlushStop}
use Rattle.erm_flush.specs.declared.stops.FlushStop.TheVariants as stop
use Rattle.erm_log_disk.specs.Writes.{OnlyWrites}
use Rattle.erm_model.specs.RowTransaction.{Law}
use Rattle.erm_outside.specs.Disk.{Tells}
use Rattle.erm_outside.specs.Faults.{Rose}
use Rattle.erm_ring.specs.Turns.{MayGather, WasOpen}
use Rattle.erm_rule.specs.declared.view.Start.{Start}
use Rattle.erm_world.specs.Log.{Log, words_of}

-- At each moment from one state of a desk, which knows this log, to another each image of its disk recovers to a front of the blocks known then, to
-- all that was flushed before at least.
pub record KeepsFlushed (law : Law) (o : Start) (log : Log) (s t : Sees) : Type 0 where
  pub knew : KnowsLog law s.book log
  pub blocks : List Block
  pub knows : KnowsBlocks law o t.book (log.gathered ++ blocks)
  pub keeps : Tells (KeepsBlocks law.meets (state_at log []) (log.gathered ++ blocks) log.flushed) s.told t.told

-- From one state of a desk, which knows this log, to another nothing else was done to its disk than to write words of some blocks behind the place
-- flushed before, each at its place, and to wait. Those blocks are known then, and at each moment each image recovers to a front of all blocks, to all
-- that was flushed before at least.
pub record WritesBehind (law : Law) (o : Start) (log : Log) (s t : Sees) : Type 0 where
  pub knew : KnowsLog law s.book log
  pub blocks : List Block
  pub knows : KnowsBlocks law o t.book (log.gathered ++ blocks)
  pub writes : OnlyWrites log.flushed (words_of blocks) s.told t.told
  pub keeps : Tells (KeepsBlocks law.meets (state_at log []) (log.gathered ++ blocks) log.flushed) s.told t.told

-- a desk that hasn't failed knows this log, its flush seat is between two turns, and its disk holds the log as far as it is flushed, from these slots
pub record HoldsKnown (law : Law) (slots : Slots) (l : Log) (s : Sees) : Type 0 where
  pub knows : KnowsLog law s.book l
  pub may : MayGather s.book.view
  pub fine : s.failed ≡ false
  pub holds : IfSome s.told (HoldsLog law.meets l slots)

-- the same of a table that was made so, whose log goes on behind where slots may name
pub record MayTurn (law : Law) (o : Start) (slots : Slots) (l : Log) (s : Sees) : Type 0 where
  pub start : s.book.start ≡ o
  pub behind : LOG_START < l.opened.at
  pub holds : HoldsKnown law slots l s

-- a log, which is pinned at this place, goes on behind where slots may name, and isn't flushed past the place
pub record MayFlushPast (place : ℕ) (l : Log) : Type 0 where
  pub behind : LOG_START < l.opened.at
  pub pinned : l.pinned ≡ Some place
  pub low : l.flushed ≤ place

-- Turns that flushed lead from a desk that knows the first log to one that knows the second: some blocks more. Nothing else was done to the disk
-- than to write their words behind the place flushed before, and to wait; and at each moment each image recovers to a front of all blocks, to all
-- that was flushed before at least. The pass took steps of its flush seat alone.
pub record FlushesOn (law : Law) (l m : Log) (s t : Sees) : Type 0 where
  pub opened : m.opened ≡ l.opened
  pub pinned : m.pinned ≡ l.pinned
  pub blocks : List Block
  pub more : m.gathered ≡ l.gathered ++ blocks
  pub flushed : m.flushed ≡ l.flushed + length (words_of blocks)
  pub writes : OnlyWrites l.flushed (words_of blocks) s.told t.told
  pub keeps : Tells (KeepsBlocks law.meets (state_at m []) m.gathered l.flushed) s.told t.told
  pub steps : FlushSteps law s.book t.book
  pub faults : t.faults ≡ s.faults

-- A turn found that a range began at this place, up to which the log is flushed, that wasn't decided: nothing was done to the disk.
pub record FindsOpen (law : Law) (at : ℕ) (l : Log) (s t : Sees) : Type 0 where
  pub knows : KnowsLog law t.book l
  pub opened : WasOpen s.book at t.book
  pub told : t.told ≡ s.told
  pub faults : t.faults ≡ s.faults
  pub fine : t.failed ≡ false
  pub steps : FlushSteps law s.book t.book

-- At a turn the disk failed: blocks were gathered behind those of the log that is known, and some of their words may be written; the log is flushed
-- as far as before.
pub record FailsOn (law : Law) (l : Log) (s t : Sees) : Type 0 where
  pub knows : KnowsLog law t.book l
  pub blocks : List Block
  pub knows_all : KnowsBlocks law t.book.start t.book (l.gathered ++ blocks)
  pub writes : OnlyWrites l.flushed (words_of blocks) s.told t.told
  pub keeps : Tells (KeepsBlocks law.meets (state_at l []) (l.gathered ++ blocks) l.flushed) s.told t.told
  pub steps : FlushSteps law s.book t.book
  pub failed : t.failed ≡ true
  pub rose : Rose s.faults t.faults

-- What turns up to a place answer: the log is flushed up to it or past it, and the disk holds it; or it is flushed up to a place below, and the turn
-- after that found that a range began there that wasn't decided; or the disk failed at one of them.
abbrev pub FlushesPast : Law → Slots → Result Unit CheckpointStop → ℕ → Log → Sees → Sees → Type 0
FlushesPast law slots (Ok _) place l s t = (m : Log) × FlushesOn law l m s t × HoldsKnown law slots m t × (place ≤ m.flushed) × IfSome t.told (HoldsLogPast law.meets m slots place)
FlushesPast law slots (Err (Unfilled at)) place l s t =
    (m : Log) × (last : Sees) × FlushesOn law l m s last × HoldsKnown law slots m last × (m.flushed ≡ at) × (at < place) × FindsOpen law at m last t
FlushesPast law slots (Err DiskFault) place l s t = (m : Log) × (mid : Sees) × FlushesOn law l m s mid × HoldsKnown law slots m mid × FailsOn law m mid t
FlushesPast law slots (Err (NotYet seat seen)) place l s t = ⊥
FlushesPast law slots (Err Failed) place l s t = ⊥

-- What a flush turn of a desk that hasn't failed makes of a log that it knows, by what it answers. `Ok`: blocks more are flushed, up to the place that it
-- answers; `Empty` and `Unfilled`: the log is known as before; `DiskFault`: blocks more are gathered. Whatever it answers, nothing else was done to the
-- disk than to write their words behind the place flushed before, and to wait.
abbrev pub TurnsOn : Law → Slots → Result ℕ FlushStop → Log → Sees → Sees → Type 0
TurnsOn law slots (Ok end) l s t = (m : Log) × FlushesOn law l m s t × HoldsKnown law slots m t × (m.flushed ≡ end)
TurnsOn law slots (Err (stop.Empty at)) l s t = FlushesOn law l l s t × HoldsKnown law slots l t
TurnsOn law slots (Err (stop.Unfilled at)) l s t = FlushesOn law l l s t × HoldsKnown law slots l t
TurnsOn law slots (Err stop.DiskFault) l s t = FailsOn law l s t
TurnsOn law slots (Err stop.Failed) l s t = ⊥
