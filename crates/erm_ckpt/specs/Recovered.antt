-- What an image of a disk recovers to: the rows of the best slot, and then those of the log list from its place on.
use Rattle.std.specs.Prelude.{◌≡◌, ◌≢◌, ℕ, ◌+◌, ◌⊎◌, nat_lt, if◌then◌else◌, List, [], ◌∷◌, Option, Some, None}
use Rattle.std.specs.Option.{option_map}
use Rattle.erm_model.specs.Rows.{Rows}
use Rattle.erm_block.specs.declared.block.Block.{Block}
use Rattle.erm_block.specs.LogList.{End, IsLogList, rows_after_block}
use Rattle.erm_outside.specs.declared.disk.File.{File}
use Rattle.erm_outside.specs.declared.disk.File.TheVariants.{Slot0, Slot1, Segment}
use Rattle.erm_outside.specs.Disk.{Image}
use Rattle.erm_log_words.specs.Words.{log_words}
use Rattle.erm_ckpt.specs.declared.slot.Slots.{Slots}
use Rattle.erm_ckpt.specs.declared.slot.TheConstants.{LOG_START}
use Rattle.erm_ckpt.specs.Checkpoint.{Checkpoint, Checks, rows_of_checkpoint, zero_rows}
use Rattle.erm_ckpt.specs.Slots.{other_of}

-- a place of the log, the run of the last block before it, and the rows there
pub record State : Type 0 where
  pub at : ℕ
  pub run : ℕ
  pub rows : Rows

-- the state behind blocks that stand from a state on
abbrev pub state_behind : State → List Block → State
state_behind state [] = state
state_behind state (block ∷ blocks) = state_behind (record {
  at = state.at + block.size;
  run = block.run;
  rows = rows_after_block block state.rows;
}) blocks

-- where the log list of an image goes on from a state
abbrev pub end_at : Image → State → End
end_at image state = record { words = log_words image state.at; at = state.at; run = state.run; rows = state.rows }

-- what a slot's file shows: a checkpoint that checks, or none
abbrev pub Shows : (Rows → Type 0) → List ℕ → Option Checkpoint → Type 0
Shows sound file None = (checkpoint : Checkpoint) → Checks sound file checkpoint → ⊥
Shows sound file (Some checkpoint) = Checks sound file checkpoint

-- the checkpoints of the two slots
pub record Pair : Type 0 where
  pub slot0 : Option Checkpoint
  pub slot1 : Option Checkpoint

-- what their slots say
abbrev pub slots_of : Pair → Slots
slots_of pair = record {
  slot0 = option_map (λ checkpoint. checkpoint.slot) pair.slot0;
  slot1 = option_map (λ checkpoint. checkpoint.slot) pair.slot1;
}

-- of two checkpoints the one with the greater stamp, the first where they are equal
abbrev pub better : Option Checkpoint → Option Checkpoint → Option Checkpoint
better None b = b
better (Some a) None = Some a
better (Some a) (Some b) = if nat_lt a.slot.stamp b.slot.stamp then Some b else Some a

-- the best one
abbrev pub best : Pair → Option Checkpoint
best pair = better pair.slot0 pair.slot1

-- the checkpoints where a slot's file shows another one, or none
abbrev pub pair_with : Pair → File → Option Checkpoint → Pair
pair_with pair Slot0 shown = record pair { slot0 = shown }
pair_with pair _ shown = record pair { slot1 = shown }

-- the checkpoints after another one is written: it takes the place of the one that isn't the best
abbrev pub put : Pair → Checkpoint → Pair
put pair checkpoint = pair_with pair (other_of (slots_of pair)) (Some checkpoint)

-- the state behind a checkpoint, or at the start of the log
abbrev pub state_of : Option Checkpoint → State
state_of None = record { at = LOG_START; run = 0; rows = zero_rows }
state_of (Some checkpoint) = record { at = checkpoint.slot.stamp; run = checkpoint.slot.run; rows = rows_of_checkpoint checkpoint }

-- where recovery begins
abbrev pub base : Pair → State
base pair = state_of (best pair)

-- with no slot that checks the log is whole: both slots' files are empty, or the first segment is there
abbrev pub HasBase : Image → Type 0
HasBase image = ((image Slot0 ≡ []) × (image Slot1 ≡ [])) ⊎ (image (Segment 0) ≢ [])

-- an image recovers to the best of these checkpoints and then these blocks
pub record Recovers (sound : Rows → Type 0) (image : Image) (pair : Pair) (blocks : List Block) : Type 0 where
  pub slot0 : Shows sound (image Slot0) pair.slot0
  pub slot1 : Shows sound (image Slot1) pair.slot1
  pub based : best pair ≡ None → HasBase image
  pub list : IsLogList sound (end_at image (base pair)) blocks

-- an image recovers to nothing: no slot checks, a slot's file has bytes, and the first segment has none
pub record HasNoBase (sound : Rows → Type 0) (image : Image) : Type 0 where
  pub slot0 : Shows sound (image Slot0) None
  pub slot1 : Shows sound (image Slot1) None
  pub bytes : (image Slot0 ≢ []) ⊎ (image Slot1 ≢ [])
  pub gone : image (Segment 0) ≡ []

-- an image recovers to this place, behind a block of this run
pub record RecoversAt (sound : Rows → Type 0) (image : Image) (at run : ℕ) : Type 0 where
  pub pair : Pair
  pub blocks : List Block
  pub recovers : Recovers sound image pair blocks
  pub at_is : at ≡ (state_behind (base pair) blocks).at
  pub run_is : run ≡ (state_behind (base pair) blocks).run
