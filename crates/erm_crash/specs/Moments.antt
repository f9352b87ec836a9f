-- What a crash leaves at any moment of a run, on a disk that shows each block and each slot whole, or none.
use Rattle.std.specs.Prelude.{◌≡◌, ◌≢◌, ◌++◌, List, [], ◌∷◌}
use Rattle.erm_model.specs.Rows.{Rows}
use Rattle.erm_block.specs.declared.block.Block.{Block}
use Rattle.erm_bytes.specs.Bytes.{bytes_of}
use Rattle.erm_outside.specs.Disk.{contents, Image, IsImage, IsSettled, Step}
use Rattle.erm_log_disk.specs.Chains.{MayStand}
use Rattle.erm_log_disk.specs.Writes.{AllWriteWords}
use Rattle.erm_log_words.specs.Tears.{IsFresh, ShowsBlocks, ShowsSlot}
use Rattle.erm_ckpt.specs.Checkpoint.{Checkpoint, IsCheckedSlot, IsCheckpoint, slot_words}
use Rattle.erm_ckpt.specs.Recovered.{Pair, State, end_at}
use Rattle.erm_ckpt.specs.States.{RecoversTo}
use Rattle.erm_checkpoint.specs.Phases.{other_file}
use Rattle.erm_checkpoint.specs.Steps.{WritesPart}
use Rattle.erm_world.specs.Log.{words_of}

-- a moment between two lists of steps: some steps were done since the older ones, and others follow
pub record IsMoment (old new now : List Step) : Type 0 where
  pub before : List Step
  pub since : now ≡ before ++ old
  pub after : List Step
  pub later : new ≡ after ++ now

-- at each moment from the older steps to the newer ones, each image that a crash may leave has P, which knows the moment
abbrev pub AtMoments : (List Step → Image → Type 0) → List Step → List Step → Type 0
AtMoments P old new = ((more : List Step) × (new ≡ more ++ old)) × ((now : List Step) → IsMoment old new now → (image : Image) → IsImage now image → P now image)

-- What is asked of a disk whose writes a crash cuts short. Where nothing was pending on it and it recovered to a state, and words of
-- blocks that may stand from there on were written since, an image shows each of these blocks whole, or bytes at which none reads: but only
-- where, before they were written, no block read there or behind it of the run of the first of these blocks or of a later one. And where a
-- slot was written since to the file of the one that isn't best, an image shows the slot, or such slots as stood there, or none.
pub record TearsApart (sound : Rows → Type 0) (now : List Step) (image : Image) : Type 0 where
  pub blocks : (old more : List Step) (state : State) (pair : Pair) (block : Block) (others : List Block) → now ≡ more ++ old → more ≢ [] → IsSettled old
      → RecoversTo sound state pair (contents old) → IsFresh block.run (contents old) state.at → MayStand sound (end_at (contents old) state) (block ∷ others)
      → AllWriteWords state.at (words_of (block ∷ others)) more → ShowsBlocks image state.at state.run (block ∷ others)
  pub slots : (old : List Step) (state : State) (pair : Pair) (checkpoint : Checkpoint) → now ≢ old → IsSettled old
      → RecoversTo sound state pair (contents old) → IsCheckpoint checkpoint
      → WritesPart (other_file pair) (bytes_of (slot_words checkpoint)) old now
      → ShowsSlot (IsCheckedSlot sound) (contents old (other_file pair)) (bytes_of (slot_words checkpoint)) (image (other_file pair))
