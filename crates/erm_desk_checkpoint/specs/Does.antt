-- What a desk that takes checkpoints does to its disk.
use Rattle.std.specs.Prelude.{◌≡◌, ◌⊎◌, ℕ, ◌<◌, ◌≤◌, List, [], ◌∷◌, ◌++◌, length}
use Rattle.erm_block.specs.declared.block.Block.{Block}
use Rattle.erm_bytes.specs.Bytes.{bytes_of}
use Rattle.erm_ckpt.specs.declared.slot.Slot.{Slot}
use Rattle.erm_ckpt.specs.declared.slot.Slots.{Slots}
use Rattle.erm_ckpt.specs.Checkpoint.{Checkpoint, IsCheckpoint, slot_words}
use Rattle.erm_ckpt.specs.Slots.{other_of, put_slot, removal_end}
use Rattle.erm_log_disk.specs.Writes.{WritesWords}
use Rattle.erm_outside.specs.declared.disk.File.{File}
use Rattle.erm_outside.specs.declared.disk.File.TheVariants.{Segment}
use Rattle.erm_outside.specs.Disk.{Change, Step}
use Rattle.erm_outside.specs.Disk.Change.{Removed, Synced, Tried, Wrote}
use Rattle.erm_rule.specs.declared.view.Start.{Start}
use Rattle.erm_world.specs.Log.{words_of}

-- a checkpoint's slot is written to the file of the one of these slots that isn't best
pub record IsSlotWrite (slots : Slots) (file : File) (byte : ℕ) (bytes : List ℕ) : Type 0 where
  pub file_is : file ≡ other_of slots
  pub byte_is : byte ≡ 0
  pub checkpoint : Checkpoint
  pub is : IsCheckpoint checkpoint
  pub bytes_are : bytes ≡ bytes_of (slot_words checkpoint)

-- what is done where a checkpoint is saved from these slots: its slot is written, a segment below that of the best slot's place is removed, or it is
-- waited for
abbrev pub SavesStep : Slots → File → Change → Type 0
SavesStep slots file (Wrote byte bytes) = IsSlotWrite slots file byte bytes
SavesStep slots file (Tried byte bytes left) = IsSlotWrite slots file byte bytes × (length left ≤ length bytes)
SavesStep slots file Synced = Unit {0}
SavesStep slots file Removed = (segment : ℕ) × (file ≡ Segment segment) × (segment < removal_end slots)

-- each of these steps writes some of these words at their place in the log, of which the first is at a place, or is one of a save from these slots
abbrev pub AllDo : ℕ → List ℕ → Slots → List Step → Type 0
AllDo at words slots [] = Unit {0}
AllDo at words slots (step ∷ steps) = (WritesWords at words step.file step.change ⊎ SavesStep slots step.file step.change) × AllDo at words slots steps

-- between two lists of steps nothing else was done than to write words of these blocks, each at its place, to save checkpoints from these slots, or to
-- begin to, and to wait
abbrev pub DoesWith : Start → List Block → Slots → List Step → List Step → Type 0
DoesWith o blocks slots old now = (more : List Step) × (now ≡ more ++ old) × AllDo o.tail (words_of blocks) slots more

-- the same of each of the slots that were known one after another, of which these were the last, and those before them stand in the list, the latest first:
-- each are the ones before them and one that was put there
abbrev pub DoesSince : Start → List Block → Slots → List Slots → List Step → List Step → Type 0
DoesSince o blocks slots [] old now = DoesWith o blocks slots old now
DoesSince o blocks slots (before ∷ earlier) old now =
    (mid : List Step) × DoesSince o blocks before earlier old mid × ((slot : Slot) × (slots ≡ put_slot before slot)) × DoesWith o blocks slots mid now

-- the same of some such slots before these
abbrev pub DidSince : Start → List Block → Slots → List Step → List Step → Type 0
DidSince o blocks slots old now = (earlier : List Slots) × DoesSince o blocks slots earlier old now
