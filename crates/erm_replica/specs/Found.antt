-- What is found at the front of bytes.
use Rattle.std.specs.Prelude.{◌≡◌, ℕ, ◌*◌, ◌≤◌, List, length, Option}
use Rattle.erm_bytes.specs.declared.bytes.TheConstants.{WORD_BYTES}
use Rattle.erm_model.specs.Rows.{rows_of}
use Rattle.erm_model.specs.RowTransaction.{SameRows}
use Rattle.erm_ckpt.specs.Checkpoint.{rows_of_checkpoint}
use Rattle.erm_replica.specs.declared.front.FoundItem.{FoundItem}
use Rattle.erm_replica.specs.declared.item.LogPlace.{LogPlace}
use Rattle.erm_replica.specs.Stream.{Part, StandsFirst, item_of, log_behind, part_words}
use Rattle.erm_replica.specs.Stream.Part.{base, block}

-- an array has the rows of a checkpoint; of a block nothing is asked
abbrev pub HasRowsOf : Part → List (List ℕ) → Type 0
HasRowsOf (base checkpoint) rows = SameRows (rows_of rows) (rows_of_checkpoint checkpoint)
HasRowsOf (block b) rows = Unit {0}

-- a part was found: what is answered of it, its words, where the log goes on behind it, and its rows
pub record Finds (log : Option LogPlace) (bytes : List ℕ) (rows : List (List ℕ)) (found : FoundItem) : Type 0 where
  pub part : Part
  pub there : StandsFirst log bytes part
  pub item : found.item ≡ item_of part
  pub size : found.size ≡ length (part_words part)
  pub behind : found.log ≡ log_behind part
  pub within : WORD_BYTES * found.size ≤ length bytes
  pub rows_are : HasRowsOf part rows
