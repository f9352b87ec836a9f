-- What the slots show behind a checkpoint, and what each image recovers to while it is saved.
use Rattle.std.specs.Prelude.{◌≡◌, ◌≢◌, ◌≤◌, ◌++◌, ℕ, List, [], Some, None}
use Rattle.erm_model.specs.Rows.{Rows}
use Rattle.erm_block.specs.declared.block.Block.{Block}
use Rattle.erm_block.specs.LogList.{IsLogList}
use Rattle.erm_bytes.specs.Bytes.{bytes_of}
use Rattle.erm_log_words.specs.Tears.{ShowsSlot}
use Rattle.erm_log_words.specs.Words.{word_at}
use Rattle.erm_outside.specs.declared.disk.File.{File}
use Rattle.erm_outside.specs.declared.disk.File.TheVariants.{Segment}
use Rattle.erm_outside.specs.Disk.{contents, Image, IsSettled, Step}
use Rattle.erm_ckpt.specs.Checkpoint.{Checkpoint, IsCheckedSlot, IsCheckpoint, rows_of_checkpoint, slot_words}
use Rattle.erm_ckpt.specs.Recovered.{Pair, State, base, best, end_at, put, slots_of, state_behind, state_of}
use Rattle.erm_ckpt.specs.Slots.{other_of}
use Rattle.erm_ckpt.specs.States.{RecoversTo, SameState}

-- the file of the slot that isn't best
abbrev pub other_file : Pair → File
other_file pair = other_of (slots_of pair)

-- A checkpoint may be saved: nothing is pending, the disk recovers from a state to that behind some blocks, and the checkpoint has
-- the state behind a front of them, at or above the place where recovery begins. Where no slot checks, the first segment is there.
pub record MaySave (sound : Rows → Type 0) (from : State) (front rest : List Block) (pair : Pair) (checkpoint : Checkpoint) (steps : List Step) : Type 0 where
  pub settled : IsSettled steps
  pub there : RecoversTo sound (state_behind from (front ++ rest)) pair (contents steps)
  pub list : IsLogList sound (end_at (contents steps) from) (front ++ rest)
  pub begins : best pair ≡ None → contents steps (Segment 0) ≢ []
  pub is : IsCheckpoint checkpoint
  pub are_sound : sound (rows_of_checkpoint checkpoint)
  pub state : SameState (state_of (Some checkpoint)) (state_behind from front)
  pub newer : (base pair).at ≤ checkpoint.slot.stamp

-- an image recovers to this state, from the slots that it shows
abbrev pub Recovering : (Rows → Type 0) → State → Image → Type 0
Recovering sound state image = (pair : Pair) × RecoversTo sound state pair image

-- where an image shows the slot that is written, or such slots as stood there, or none that checks, it recovers to this state
abbrev pub RecoversTorn : (Rows → Type 0) → State → Pair → Checkpoint → Image → Image → Type 0
RecoversTorn sound state pair checkpoint before image =
    ShowsSlot (IsCheckedSlot sound) (before (other_file pair)) (bytes_of (slot_words checkpoint)) (image (other_file pair)) → Recovering sound state image

-- A checkpoint was saved: nothing is pending, the disk recovers to the same state, and does so from the checkpoint's place on. The
-- words of the log are as before.
pub record IsSaved (sound : Rows → Type 0) (state : State) (pair : Pair) (checkpoint : Checkpoint) (old new : List Step) : Type 0 where
  pub settled : IsSettled new
  pub there : RecoversTo sound state (put pair checkpoint) (contents new)
  pub some : best (put pair checkpoint) ≢ None
  pub from : (base (put pair checkpoint)).at ≡ checkpoint.slot.stamp
  pub words : (p : ℕ) → word_at (contents new) p ≡ word_at (contents old) p
