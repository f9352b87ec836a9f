-- A desk that takes checkpoints: what is so of it whenever its lock is free.
use Rattle.std.specs.Prelude.{◌≡◌, ℕ, ◌<◌, ◌≤◌, Bool, true, false, List, [], ◌++◌, Option, IfSome}
use Rattle.erm_block.specs.declared.block.Block.{Block}
use Rattle.erm_checkpoint.specs.Taken.{HoldsLog}
use Rattle.erm_ckpt.specs.declared.slot.Slots.{Slots}
use Rattle.erm_ckpt.specs.declared.slot.TheConstants.{LOG_START}
use Rattle.erm_desk.specs.Desk.{HeldSince, KeepsFronts, Sees}
use Rattle.erm_desk.specs.Known.{KnowsBlocks, KnowsLog}
use Rattle.erm_model.specs.RowTransaction.{Law}
use Rattle.erm_model.specs.declared.limits.TheConstants.{LAST_RUN, LOG_END}
use Rattle.erm_outside.specs.Disk.{Step, Tells}
use Rattle.erm_outside.specs.Faults.{Rose}
use Rattle.erm_ring.specs.Turns.{MayGather}
use Rattle.erm_rule.specs.declared.view.Book.{Book}
use Rattle.erm_rule.specs.declared.view.Start.{Start}
use Rattle.erm_rule.specs.Views.{MayJoin}
use Rattle.erm_world.specs.Log.{Log}
use Rattle.erm_desk_checkpoint.specs.Does.{DidSince}

-- a desk of this book, of a disk that tells this, with this count of faults, which failed or not
abbrev pub sees_of : Book → Option (List Step) → ℕ → Bool → Sees
sees_of b told faults failed = record { book = b; told = told; faults = faults; failed = failed }

-- a desk with its slots, as contracts see it
pub record SeesSlots : Type 0 where
  pub desk : Sees
  pub slots : Slots

-- the log of a table that was made so goes on where checkpoints may lie, in a run that a slot may name
pub record MayLie (o : Start) : Type 0 where
  pub behind : LOG_START < o.tail
  pub high : o.tail ≤ LOG_END
  pub run_low : 1 ≤ o.run
  pub run_high : o.run ≤ LAST_RUN

-- A DESK THAT TAKES CHECKPOINTS. Its pass has the flush seat, which is between two turns, and knows this log, all blocks of which are flushed. At each
-- moment since it was set up each image of its disk recovers to a front of them, and of those that were tried at a turn at which the disk failed. At
-- some moment the disk held the log as far as it is flushed, and since then each image recovers to all of it at least; while the disk hasn't failed,
-- it holds it now, from these slots. Since it was set up
-- nothing else was done to the disk than to write words of those blocks, each at its place, to save checkpoints, one after another, each from the slots
-- that were known then, or to begin to, and to wait.
pub record KeepsLog (law : Law) (o : Start) (began : Option (List Step)) (faults : ℕ) (slots : Slots) (log : Log) (tried : List Block) (d : Sees) : Type 0 where
  pub lies : MayLie o
  pub start : d.book.start ≡ o
  pub may : MayGather d.book.view
  pub joins : MayJoin d.book.view
  pub knows : KnowsLog law d.book log
  pub knows_all : KnowsBlocks law o d.book (log.gathered ++ tried)
  pub onward : Tells (λ old new. (more : List Step) × (new ≡ more ++ old)) began d.told
  pub keeps : IfSome d.told (λ now. IfSome began (λ old. KeepsFronts law o (log.gathered ++ tried) old now))
  pub since : IfSome d.told (λ now. IfSome began (λ old. HeldSince law o log.gathered tried old now))
  pub did : IfSome d.told (λ now. IfSome began (λ old. DidSince o (log.gathered ++ tried) slots old now))
  pub holds : d.failed ≡ false → (tried ≡ []) × IfSome d.told (HoldsLog law.meets log slots)
  pub sound : d.failed ≡ false → d.faults ≡ faults
  pub rose : d.failed ≡ true → Rose faults d.faults

abbrev pub IsKept : Law → Start → Option (List Step) → ℕ → Slots → Sees → Type 0
IsKept law o began faults slots d = (log : Log) × (tried : List Block) × KeepsLog law o began faults slots log tried d
