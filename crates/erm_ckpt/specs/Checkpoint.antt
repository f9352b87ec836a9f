-- Checkpoints: the rows as of a place of the log, and the one spelling of their slot in words.
use Rattle.std.specs.Prelude.{◌≡◌, ℕ, ◌/◌, ◌<◌, ◌≤◌, List, [], ◌∷◌, ◌++◌, length, replicate, nat_lt, filter}
use Rattle.std.specs.List.{flat_map, All, AllPairs, enumerate_from}
use Rattle.erm_bytes.specs.Bytes.{AreWords, bytes_of}
use Rattle.erm_bytes.specs.Digest.{digest_of}
use Rattle.erm_model.specs.declared.TheConstants.{ROW_WORDS}
use Rattle.erm_model.specs.declared.limits.TheConstants.{LAST_RUN, LOG_END, SEGMENT_WORDS}
use Rattle.erm_model.specs.Rows.{Rows}
use Rattle.erm_record.specs.Stored.{stored_length}
use Rattle.erm_block.specs.declared.block.Form.{Form}
use Rattle.erm_block.specs.declared.block.Form.TheVariants.{Whole, Stored}
use Rattle.erm_block.specs.Block.{Entry, IsEntry}
use Rattle.erm_block.specs.LogList.{set_rows}
use Rattle.erm_block.specs.Spelling.{entry_words}
use Rattle.erm_log_words.specs.Tears.{BeginsWith}
use Rattle.erm_ckpt.specs.declared.slot.Slot.{Slot}
use Rattle.erm_ckpt.specs.declared.slot.TheConstants.{LOG_START}

-- a checkpoint: how its rows are spelled, what its slot says of it, and the rows that aren't zero, each with its object's number
pub record Checkpoint : Type 0 where
  pub form : Form
  pub slot : Slot
  pub entries : List Entry

-- what a slot may say
pub record IsSlot (slot : Slot) : Type 0 where
  -- the place of the log as of which the rows are
  pub stamp_low : LOG_START ≤ slot.stamp
  pub stamp_high : slot.stamp ≤ LOG_END
  -- the run of the last block before it
  pub run_low : 1 ≤ slot.run
  pub run_high : slot.run ≤ LAST_RUN
  -- no segment is removed that holds words behind the place
  pub first : slot.first ≤ slot.stamp / SEGMENT_WORDS

-- a row that a checkpoint has, with its object's number: it isn't zero
pub record IsSaved (entry : Entry) : Type 0 where
  pub is : IsEntry entry
  pub words : AreWords entry.1
  pub some : 0 < stored_length entry.1

-- a checkpoint of the grammar: its objects ascend
pub record IsCheckpoint (checkpoint : Checkpoint) : Type 0 where
  pub slot : IsSlot checkpoint.slot
  pub each : All IsSaved checkpoint.entries
  pub ascending : AllPairs (λ a b. a.0 < b.0) checkpoint.entries

-- the number of a format: 1 has whole rows, 2 rows up to their last word that isn't 0
abbrev pub format_of : Form → ℕ
format_of Whole = 1
format_of Stored = 2

-- a slot's words but the digest
abbrev pub slot_body : Checkpoint → List ℕ
slot_body checkpoint =
    format_of checkpoint.form ∷ checkpoint.slot.stamp ∷ checkpoint.slot.run ∷ checkpoint.slot.first ∷ length checkpoint.entries
    ∷ flat_map (entry_words checkpoint.form) checkpoint.entries

-- a slot's words: the body, and its digest
abbrev pub slot_words : Checkpoint → List ℕ
slot_words checkpoint = slot_body checkpoint ++ digest_of (slot_body checkpoint) ∷ []

-- rows that are all zero
abbrev pub zero_rows : Rows
zero_rows = λ _. replicate ROW_WORDS 0

-- the rows of a checkpoint: those that it doesn't have are zero
abbrev pub rows_of_checkpoint : Checkpoint → Rows
rows_of_checkpoint checkpoint = set_rows checkpoint.entries zero_rows

-- the words begin with the slot of this checkpoint of the grammar
pub record StandsIn (words : List ℕ) (checkpoint : Checkpoint) : Type 0 where
  pub is : IsCheckpoint checkpoint
  pub spelled : (rest : List ℕ) × (words ≡ slot_words checkpoint ++ rest)

-- A file's slot checks: the file begins with the slot of this checkpoint of the grammar, and its rows are sound. Which rows are
-- sound is a parameter: those that meet a law.
pub record Checks (sound : Rows → Type 0) (file : List ℕ) (checkpoint : Checkpoint) : Type 0 where
  pub is : IsCheckpoint checkpoint
  pub rows : sound (rows_of_checkpoint checkpoint)
  pub spelled : BeginsWith file (bytes_of (slot_words checkpoint))

-- these bytes are a slot that checks
pub record IsCheckedSlot (sound : Rows → Type 0) (bytes : List ℕ) : Type 0 where
  pub checkpoint : Checkpoint
  pub is : IsCheckpoint checkpoint
  pub rows : sound (rows_of_checkpoint checkpoint)
  pub bytes_are : bytes ≡ bytes_of (slot_words checkpoint)

-- the rows of an array that aren't zero, each with its object's number
abbrev pub saved : List (List ℕ) → List Entry
saved rows = filter (λ entry. nat_lt 0 (stored_length entry.1)) (enumerate_from 0 rows)

-- the checkpoint of an array of rows, as it is written: in format 2
abbrev pub checkpoint_of : Slot → List (List ℕ) → Checkpoint
checkpoint_of slot rows = record { form = Stored; slot = slot; entries = saved rows }
