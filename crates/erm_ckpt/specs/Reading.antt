-- What is read of a slot: the head of a row, the rows, and the whole slot.
use Rattle.std.specs.Prelude.{◌≡◌, ℕ, ◌+◌, ◌*◌, ◌^◌, ◌<◌, ◌≤◌, List, ◌++◌, length}
use Rattle.std.specs.List.{flat_map, All, AllPairs}
use Rattle.erm_model.specs.declared.TheConstants.{ROW_WORDS}
use Rattle.erm_model.specs.declared.limits.TheConstants.{OID_LIMIT}
use Rattle.erm_model.specs.Rows.{rows_of}
use Rattle.erm_model.specs.RowTransaction.{SameRows}
use Rattle.erm_block.specs.declared.block.Form.{Form}
use Rattle.erm_block.specs.declared.block.Form.TheVariants.{Whole, Stored}
use Rattle.erm_block.specs.Block.{Entry}
use Rattle.erm_block.specs.LogList.{set_rows}
use Rattle.erm_block.specs.Spelling.{entry_words}
use Rattle.erm_ckpt.specs.declared.slot.Slot.{Slot}
use Rattle.erm_ckpt.specs.Checkpoint.{Checkpoint, IsSaved, StandsIn, rows_of_checkpoint, zero_rows}

-- the first word of a row of so many words, by its object's number
abbrev pub head_word : Form → ℕ → ℕ → ℕ
head_word Whole oid length = oid
head_word Stored oid length = oid + 2 ^ 32 * length

-- a row may have so many words in this form
abbrev pub FitsForm : Form → ℕ → Type 0
FitsForm Whole length = length ≡ ROW_WORDS
FitsForm Stored length = length ≤ ROW_WORDS

-- a word is the first of a row of so many words, of an object that there may be
pub record IsHead (form : Form) (word oid length : ℕ) : Type 0 where
  pub object : oid < OID_LIMIT
  pub fits : FitsForm form length
  pub word_is : word ≡ head_word form oid length

-- words begin with a row that a checkpoint has, which takes so many of them
pub record BeginsWithEntry (form : Form) (words : List ℕ) (entry : Entry) (size : ℕ) : Type 0 where
  pub is : IsSaved entry
  pub rest : List ℕ
  pub words_are : words ≡ entry_words form entry ++ rest
  pub size_is : size ≡ length (entry_words form entry)

-- words begin with so many rows of a checkpoint, which take so many words
pub record HasRows (form : Form) (words : List ℕ) (count size : ℕ) : Type 0 where
  pub entries : List Entry
  pub each : All IsSaved entries
  pub ascending : AllPairs (λ a b. a.0 < b.0) entries
  pub many : length entries ≡ count
  pub rest : List ℕ
  pub words_are : words ≡ flat_map (entry_words form) entries ++ rest
  pub size_is : size ≡ length (flat_map (entry_words form) entries)

-- and an array has these rows, and others are zero
pub record BeginsWithRows (form : Form) (words : List ℕ) (rows : List (List ℕ)) (count size : ℕ) : Type 0 where
  pub has : HasRows form words count size
  pub rows_are : SameRows (rows_of rows) (set_rows has.entries zero_rows)

-- words begin with the slot of a checkpoint of the grammar, which says this, and an array has the checkpoint's rows
pub record IsSlotOf (words : List ℕ) (rows : List (List ℕ)) (slot : Slot) : Type 0 where
  pub checkpoint : Checkpoint
  pub stands : StandsIn words checkpoint
  pub slot_is : slot ≡ checkpoint.slot
  pub rows_are : SameRows (rows_of rows) (rows_of_checkpoint checkpoint)
