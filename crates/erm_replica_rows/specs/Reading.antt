-- What a reader of a stream's bytes takes.
use Rattle.std.specs.Prelude.{◌≡◌, ◌≢◌, ℕ, ◌⊎◌, List, drop, None, vec_len, IfSome}
use Rattle.erm_block.specs.Block.{IsBlock}
use Rattle.erm_block.specs.LogList.{rows_after_block}
use Rattle.erm_model.specs.Rows.{Rows, rows_of}
use Rattle.erm_model.specs.RowTransaction.{SameRows}
use Rattle.erm_replica.specs.declared.item.Item.{Item}
use Rattle.erm_replica.specs.declared.item.Item.TheVariants as item
use Rattle.erm_replica.specs.declared.stream.TheConstants.{ITEM_WORDS}
use Rattle.erm_replica.specs.Ready.{IsReady}
use Rattle.erm_replica.specs.Stream.{HasNext, IsUnreadable, Part, Streamed, behind, item_of}
use Rattle.erm_replica_rows.specs.declared.reader.Reader.{Reader}
use Rattle.erm_replica_rows.specs.Replica.{rows_after}

-- the stream as a reader of these bytes sees it
abbrev pub seen : Reader → List ℕ → Streamed
seen reader bytes = record { place = reader.place; log = reader.log; rest = drop reader.index bytes }

-- a reader may read of so many bytes
abbrev pub CanRead : Reader → ℕ → Type 0
CanRead reader count = IsReady reader.index count ITEM_WORDS (vec_len reader.rows) reader.place reader.log

-- the rows that a reader has behind the checkpoint meet a law
abbrev pub HasLawful : (Rows → Type 0) → Reader → Type 0
HasLawful meets reader = IfSome reader.log (λ _. meets (rows_of reader.rows.items))

-- a reader took the next item, and has the rows after it
pub record Advances (i : Item) (bytes : List ℕ) (before after : Reader) : Type 0 where
  pub part : Part
  pub there : HasNext (seen before bytes) part
  pub item_is : i ≡ item_of part
  pub state : seen after bytes ≡ behind part (seen before bytes)
  pub rows : SameRows (rows_of after.rows.items) (rows_after part (rows_of before.rows.items))

-- what stands where a reader stands is no item, whatever follows: it doesn't read, or the rows after it don't meet a law
abbrev pub IsStuck : (Rows → Type 0) → List ℕ → Reader → Type 0
IsStuck meets bytes reader =
    IsUnreadable reader.log (drop reader.index bytes) ⊎ ((part : Part) × HasNext (seen reader bytes) part × (meets (rows_after part (rows_of reader.rows.items)) → ⊥))

-- a reader stands where it stood, and behind the checkpoint with the same rows
pub record StaysPut (before after : Reader) : Type 0 where
  pub index : after.index ≡ before.index
  pub place : after.place ≡ before.place
  pub log : after.log ≡ before.log
  pub rows : before.log ≢ None → after.rows.items ≡ before.rows.items

-- ---- the rows of an item

-- the rows after an item, where those of a checkpoint are there already
abbrev pub rows_with : Item → Rows → Rows
rows_with (item.Base slot) rows = rows
rows_with (item.Block b) rows = rows_after_block b rows

-- the rows of a block may be set: it is one, and the rows before meet a law
abbrev pub MaySet : (Rows → Type 0) → Item → Rows → Type 0
MaySet meets (item.Base slot) rows = Unit {0}
MaySet meets (item.Block b) rows = meets rows × ((at run : ℕ) × IsBlock b at run)
