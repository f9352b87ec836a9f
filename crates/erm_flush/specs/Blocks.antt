-- What is done to a disk where blocks of the log are written, and which of them a crash leaves.
use Rattle.std.specs.Prelude.{◌≡◌, ℕ, ◌+◌, ◌≤◌, List, ◌++◌, length, take}
use Rattle.erm_model.specs.Rows.{Rows}
use Rattle.erm_block.specs.declared.block.Block.{Block}
use Rattle.erm_block.specs.LogList.{End, end_of, IsLogList}
use Rattle.erm_log_disk.specs.Chains.{log_from}
use Rattle.erm_log_disk.specs.Writes.{AllWriteWords}
use Rattle.erm_log_words.specs.Tears.{IsFresh, ShowsBlocks}
use Rattle.erm_log_words.specs.Words.{Spares}
use Rattle.erm_outside.specs.Disk.{contents, EachImage, Image, IsSettled, Step}
use Rattle.erm_world.specs.Log.{words_of}

-- An image has what was there at the places of other words. And where it shows of these blocks, which were written from an end
-- on, each whole or no block, the log list from there on is a front of them, and no block of a run above the last one's reads
-- from there on.
pub record LeavesFront (sound : Rows → Type 0) (end : End) (blocks : List Block) (before image : Image) : Type 0 where
  pub others : Spares end.at (end_of end blocks).at before image
  pub front : ShowsBlocks image end.at end.run blocks → (n : ℕ) × (n ≤ length blocks) × IsLogList sound (log_from image end) (take n blocks)
  pub later : ShowsBlocks image end.at end.run blocks → IsFresh ((end_of end blocks).run + 1) image end.at

-- These blocks were written to the log, each at its place, and nothing else was done but to wait; and at each moment each image
-- that a crash may leave has a front of them.
pub record WritesBlocks (sound : Rows → Type 0) (end : End) (blocks : List Block) (old new : List Step) : Type 0 where
  pub more : List Step
  pub steps : new ≡ more ++ old
  pub writes : AllWriteWords end.at (words_of blocks) more
  pub images : EachImage (LeavesFront sound end blocks (contents old)) old more

-- nothing is pending, the log list from an end on is these blocks, and no other place changed
pub record HoldsBlocks (sound : Rows → Type 0) (end : End) (blocks : List Block) (old new : List Step) : Type 0 where
  pub settled : IsSettled new
  pub list : IsLogList sound (log_from (contents new) end) blocks
  pub others : Spares end.at (end_of end blocks).at (contents old) (contents new)
