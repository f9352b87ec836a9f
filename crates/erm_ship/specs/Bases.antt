-- The checkpoint in front of a stream, found and laid out.
use Rattle.std.specs.Prelude.{◌≡◌, ℕ, ◌≤◌, ◌⊎◌, List, length, take, Option, Some, IfSome}
use Rattle.erm_model.specs.Rows.{rows_of}
use Rattle.erm_model.specs.RowTransaction.{SameRows}
use Rattle.erm_block.specs.declared.block.Block.{Block}
use Rattle.erm_ckpt.specs.declared.slot.Slot.{Slot}
use Rattle.erm_ckpt.specs.declared.slot.Slots.{Slots}
use Rattle.erm_ckpt.specs.Checkpoint.{Checkpoint, IsSlot, rows_of_checkpoint, zero_rows}
use Rattle.erm_ckpt.specs.Recovered.{Pair, Recovers, best, slots_of}
use Rattle.erm_node.specs.Sound.{sound_law}
use Rattle.erm_outside.specs.declared.disk.File.{File}
use Rattle.erm_outside.specs.declared.disk.File.TheVariants.{Slot0, Slot1}
use Rattle.erm_outside.specs.Disk.{Step, contents}
use Rattle.erm_outside.specs.Faults.{Rose}
use Rattle.erm_replica.specs.Stream.{IsBase, part_words, start_checkpoint}
use Rattle.erm_replica.specs.Stream.Part.{base}
use Rattle.erm_ship.specs.Streams.{shipped}
use Rattle.erm_ship.specs.declared.base.Laid.{Laid}

-- of two checkpoints the best one is that of this file, and its slot says this
pub record IsBestFile (pair : Pair) (file : File) (slot : Slot) : Type 0 where
  pub checkpoint : Checkpoint
  pub best_is : best pair ≡ Some checkpoint
  pub slot_is : slot ≡ checkpoint.slot
  pub where_it_is : ((file ≡ Slot0) × (pair.slot0 ≡ Some checkpoint)) ⊎ ((file ≡ Slot1) × (pair.slot1 ≡ Some checkpoint))

-- what a slot says in front of a stream, and an array of rows: that of the start of the log, or of a checkpoint; and where slots say what those of
-- the checkpoints say that a disk recovers to, as far as it tells, this is of the best one
pub record FindsBase (told : Option (List Step)) (slots : Slots) (slot : Slot) (rows : List (List ℕ)) : Type 0 where
  pub first : slot.first ≡ 0
  pub is : ((slot ≡ start_checkpoint.slot) × SameRows (rows_of rows) zero_rows) ⊎ IsSlot slot
  pub recovers : IfSome told (λ steps. (pair : Pair) (blocks : List Block) → slots ≡ slots_of pair → Recovers sound_law.meets (contents steps) pair blocks
      → (slot ≡ (shipped (best pair)).slot) × SameRows (rows_of rows) (rows_of_checkpoint (shipped (best pair))))

-- a disk failed, or slots say otherwise than those of the checkpoints that it recovers to, as far as it tells
abbrev pub MissesBase : Option (List Step) → Slots → ℕ → ℕ → Type 0
MissesBase told slots before after = Rose before after
    ⊎ IfSome told (λ steps. (pair : Pair) (blocks : List Block) → slots ≡ slots_of pair → Recovers sound_law.meets (contents steps) pair blocks → ⊥)

-- The words of a checkpoint that a stream may begin with are in front of words; and where slots say what those of the checkpoints say that a disk
-- recovers to, as far as it tells, it is the one in front of its stream.
pub record LaysBase (told : Option (List Step)) (slots : Slots) (laid : Laid) (words : List ℕ) : Type 0 where
  pub checkpoint : Checkpoint
  pub is : IsBase checkpoint
  pub few : laid.size ≤ length words
  pub words_are : take laid.size words ≡ part_words (base checkpoint)
  pub at : laid.log.at ≡ checkpoint.slot.stamp
  pub run : laid.log.run ≡ checkpoint.slot.run
  pub recovers : IfSome told (λ steps. (pair : Pair) (blocks : List Block) → slots ≡ slots_of pair → Recovers sound_law.meets (contents steps) pair blocks
      → checkpoint ≡ shipped (best pair))
