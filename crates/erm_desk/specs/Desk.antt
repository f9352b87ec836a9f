-- The desk: what is so of it whenever its lock is free, and what its turns answer.
use Rattle.std.specs.Prelude.{◌≡◌, ℕ, ◌<◌, Bool, true, false, List, [], ◌++◌, Option, IfSome, Result, Ok, Err}
use Rattle.erm_block.specs.declared.block.Block.{Block}
use Rattle.erm_ckpt.specs.declared.slot.Slots.{Slots}
use Rattle.erm_ckpt.specs.declared.slot.TheConstants.{LOG_START}
use Rattle.erm_checkpoint.specs.Taken.{HoldsLog, state_at}
use Rattle.erm_crash.specs.Kept.{KeepsBlocks}
use Rattle.erm_crash.specs.Moments.{IsMoment}
use Rattle.erm_flush.specs.declared.stops.FlushStop.{FlushStop}
use Rattle.erm_flush.specs.declared.stops.FlushStop.TheVariants as stop
use Rattle.erm_flush.specs.Turns.{HoldsFrom}
use Rattle.erm_log_disk.specs.Writes.{AllWriteWords}
use Rattle.erm_machine.specs.Core.{Core}
use Rattle.erm_model.specs.RowTransaction.{Law}
use Rattle.erm_outside.specs.Disk.{Step, Tells}
use Rattle.erm_outside.specs.Faults.{Rose}
use Rattle.erm_ring.specs.Turns.{Began, MayGather, WasOpen}
use Rattle.erm_rule.specs.declared.view.Book.{Book}
use Rattle.erm_rule.specs.declared.view.Start.{Start}
use Rattle.erm_rule.specs.Books.{HasState, IsAfter, IsBookOf}
use Rattle.erm_rule.specs.Views.{MayJoin}
use Rattle.erm_told_log.specs.Tail.{MeetsTail}
use Rattle.erm_world.specs.Log.{place_behind, words_of}
use Rattle.erm_desk.specs.Known.{HasPin, HasStopped, IsFlushedTo, KnowsBlocks, KnowsEnd, ended_log, flushed_log}

-- a desk as contracts see it: the book of its pass, what its disk tells, the disk's count of faults, and whether the disk failed at a
-- turn of it
pub record Sees : Type 0 where
  pub book : Book
  pub told : Option (List Step)
  pub faults : ℕ
  pub failed : Bool

-- the disk holds the log as far as these blocks, from some slots
abbrev pub IsHeld : Law → Start → List Block → List Step → Type 0
IsHeld law o blocks now = (slots : Slots) × HoldsLog law.meets (flushed_log o blocks) slots now

-- at each moment between two lists of steps each image recovers to a front of these blocks
abbrev pub KeepsFronts : Law → Start → List Block → List Step → List Step → Type 0
KeepsFronts law o blocks old now = KeepsBlocks law.meets (state_at (flushed_log o blocks) []) blocks o.tail old now

-- between two lists of steps nothing else was done than to write words of these blocks, each at its place, and to wait
abbrev pub WritesSince : Start → List Block → List Step → List Step → Type 0
WritesSince o blocks old now = (more : List Step) × (now ≡ more ++ old) × AllWriteWords o.tail (words_of blocks) more

-- At a moment between two lists of steps the disk held the log as far as some blocks, and at each moment from then on each image recovers to a
-- front of these and of those tried behind them, to all of the first at least.
pub record HeldSince (law : Law) (o : Start) (blocks tried : List Block) (old now : List Step) : Type 0 where
  pub mid : List Step
  pub moment : IsMoment old now mid
  pub held : IsHeld law o blocks mid
  pub keeps : KeepsBlocks law.meets (state_at (flushed_log o (blocks ++ tried)) []) (blocks ++ tried) (place_behind o.tail blocks) mid now

-- Where the disk held the log as it was opened, behind some earlier blocks, it holds it now as far as these blocks: of the earlier ones and of these
-- recovery meets the last ones.
abbrev pub MeetsMore : Law → Start → List Block → List Step → List Step → Type 0
MeetsMore law o blocks old now = (earlier : List Block) (first : Slots) → MeetsTail law.meets earlier (flushed_log o []) first old
    → (slots : Slots) × MeetsTail law.meets earlier (flushed_log o blocks) slots now

-- THE DESK. Its pass has the flush seat, which is between two turns. The log is flushed up to the end of these blocks, was met to end there or
-- behind it, and may be pinned. And at each moment
-- since it was set up each image of its disk recovers to a front of them, and of those that were gathered in a turn at which the disk
-- failed; nothing else was done to the disk than to write these. The disk held the log as far as it is flushed at some moment, since when each
-- image recovers to all of it at least; while the disk hasn't failed it holds it, and recovery
-- meets these blocks behind those that it met before.
pub record IsDesk (law : Law) (o : Start) (began : Option (List Step)) (faults : ℕ) (d : Sees) : Type 0 where
  pub behind : LOG_START < o.tail
  pub may : MayGather d.book.view
  pub joins : MayJoin d.book.view
  pub blocks : List Block
  pub knows : KnowsBlocks law o d.book blocks
  pub flushed : IsFlushedTo d.book (place_behind o.tail blocks)
  pub tail : ℕ
  pub pin : Option ℕ
  pub end : KnowsEnd law d.book (ended_log (flushed_log o blocks) tail pin)
  pub tried : List Block
  pub knows_all : KnowsBlocks law o d.book (blocks ++ tried)
  pub keeps : IfSome d.told (λ now. IfSome began (λ old. KeepsFronts law o (blocks ++ tried) old now))
  pub writes : IfSome d.told (λ now. IfSome began (λ old. WritesSince o (blocks ++ tried) old now))
  pub onward : Tells (λ old new. (more : List Step) × (new ≡ more ++ old)) began d.told
  pub since : IfSome d.told (λ now. IfSome began (λ old. HeldSince law o blocks tried old now))
  pub holds : d.failed ≡ false → (tried ≡ []) × IfSome d.told (IsHeld law o blocks)
  pub meets : d.failed ≡ false → IfSome d.told (λ now. IfSome began (λ old. MeetsMore law o blocks old now))
  pub sound : d.failed ≡ false → d.faults ≡ faults
  pub rose : d.failed ≡ true → Rose faults d.faults

-- Blocks were flushed behind others: they last on the disk, and nothing else was done to it than to write them and to wait. They are all
-- that was decided in order behind the place flushed before, up to a place at which nothing more was to gather at some moment. The log is
-- flushed up to their end, in whatever state the book is one of, and it is one of some state.
pub record Flushes (law : Law) (o : Start) (end : ℕ) (s t : Sees) : Type 0 where
  pub goes : IsAfter s.book t.book
  pub front : List Block
  pub blocks : List Block
  pub some : place_behind o.tail front < end
  pub end_is : end ≡ place_behind o.tail (front ++ blocks)
  pub stops : HasStopped s.book end t.book
  pub from : IsFlushedTo s.book (place_behind o.tail front)
  pub to : IsFlushedTo t.book end
  pub knows : KnowsBlocks law o t.book (front ++ blocks)
  pub lasts : Tells (HoldsFrom law.meets (place_behind o.tail front) (flushed_log o (front ++ blocks))) s.told t.told
  pub has : HasState t.book

-- Nothing was gathered: in a state of the book before, or later than one, this was the place flushed and the log ended at that tail.
pub record LooksAt (at tail : ℕ) (s t : Sees) : Type 0 where
  pub began : (c : Core) → IsBookOf t.book c → Began s.book tail at c
  pub told : t.told ≡ s.told

-- Blocks were gathered, up to such a place, and the disk failed: some of their words may be written. They are known behind those that are flushed, and
-- the log is flushed as far as before.
pub record Fails (law : Law) (o : Start) (s t : Sees) : Type 0 where
  pub goes : IsAfter s.book t.book
  pub front : List Block
  pub blocks : List Block
  pub some : place_behind o.tail front < place_behind o.tail (front ++ blocks)
  pub stops : HasStopped s.book (place_behind o.tail (front ++ blocks)) t.book
  pub from : IsFlushedTo s.book (place_behind o.tail front)
  pub still : IsFlushedTo t.book (place_behind o.tail front)
  pub knows_all : KnowsBlocks law o t.book (front ++ blocks)
  pub rose : Rose s.faults t.faults

-- What a turn answers. It answers `Failed` exactly where the disk failed at an earlier turn, and then does nothing. It answers `Empty`
-- only where the log ended at the place flushed, and `Unfilled` only where a range began there that wasn't decided.
abbrev pub TurnsTo : Law → Start → Result ℕ FlushStop → Sees → Sees → Type 0
TurnsTo law o (Ok end) s t = (s.failed ≡ false) × (t.failed ≡ false) × (t.faults ≡ s.faults) × Flushes law o end s t
TurnsTo law o (Err (stop.Empty at)) s t = (s.failed ≡ false) × (t.failed ≡ false) × (t.faults ≡ s.faults) × LooksAt at at s t
TurnsTo law o (Err (stop.Unfilled at)) s t =
    (s.failed ≡ false) × (t.failed ≡ false) × (t.faults ≡ s.faults) × ((tail : ℕ) × (at < tail) × LooksAt at tail s t) × WasOpen s.book at t.book
TurnsTo law o (Err stop.DiskFault) s t = (s.failed ≡ false) × (t.failed ≡ true) × Fails law o s t
TurnsTo law o (Err stop.Failed) s t = (s.failed ≡ true) × (t ≡ s)

-- the flush seat's pin, if it has one, is as before
abbrev pub PinStays : Book → Book → Type 0
PinStays b e = (pin : Option ℕ) → HasPin b.view pin → HasPin e.view pin

-- A pass has taken in others: the second book comes after the first, the flush seat is between two turns still, with its pin, and nothing was flushed.
pub record TakesIn (b e : Book) : Type 0 where
  pub start : e.start ≡ b.start
  pub goes : IsAfter b e
  pub gathers : MayGather e.view
  pub joins : MayJoin e.view
  pub pin : PinStays b e
  pub flushed : (place : ℕ) → IsFlushedTo b place → IsFlushedTo e place
