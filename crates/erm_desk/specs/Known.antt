-- What a pass with the flush seat knows of the log of its table's opening.
use Rattle.std.specs.Prelude.{◌≡◌, ◌⊎◌, ◌≤◌, ℕ, List, [], ◌++◌, Option, Some, None}
use Rattle.atomic_table.specs.Seated.{TableId}
use Rattle.erm_block.specs.declared.block.Block.{Block}
use Rattle.erm_core_flush.specs.Turns.{IsOpenAt}
use Rattle.erm_machine.specs.declared.limits.TheConstants.{FLUSH_SEAT}
use Rattle.erm_machine.specs.Core.{Core}
use Rattle.erm_machine.specs.Lawful.{opening_rows}
use Rattle.erm_model.specs.RowTransaction.{Law}
use Rattle.erm_pin.specs.Pins.{IsPinned, IsUnpinned}
use Rattle.erm_ring.specs.Turns.{HasBlocks}
use Rattle.erm_rule.specs.declared.view.Book.{Book}
use Rattle.erm_rule.specs.declared.view.Start.{Start}
use Rattle.erm_rule.specs.declared.view.View.{View}
use Rattle.erm_rule.specs.Books.{IsBookOf, WasSeen}
use Rattle.erm_rule.specs.Openings.{start_core}
use Rattle.erm_rule.specs.Views.{part_of}
use Rattle.erm_world.specs.Log.{IsLog, Log, place_behind, words_of}
use Rattle.erm_world.specs.Log as world

-- the name of no table
abbrev pub no_table : TableId
no_table = record { words = 0; slots = 0; views_name = 0; atom = 0; block = 0; offset = 0; slot_names = [] }

-- where the log of a table goes on that was made so
abbrev pub opened_at : Start → world.Start
opened_at o = record { at = o.tail; run = o.run; rows = opening_rows (start_core o).shared }

-- the log of such a table that ends behind these blocks, all of which are gathered and flushed
abbrev pub flushed_log : Start → List Block → Log
flushed_log o blocks = record {
  opened = opened_at o;
  tail = place_behind o.tail blocks;
  flushed = place_behind o.tail blocks;
  gathered = blocks;
  undecided = λ place. None;
  pinned = None;
}

-- The book is one of a table that was made so, of whose log these blocks are a front: in whatever state the book is one of, decided
-- ranges lie end to end from where the log begins, and their words are those of the blocks.
pub record KnowsBlocks (law : Law) (o : Start) (b : Book) (blocks : List Block) : Type 0 where
  pub start : b.start ≡ o
  pub log : IsLog law.meets (flushed_log o blocks)
  pub whole : (c : Core) → IsBookOf b c → HasBlocks o.tail (place_behind o.tail blocks) (words_of blocks) c

-- the log is flushed up to this place, in whatever state the book is one of
abbrev pub IsFlushedTo : Book → ℕ → Type 0
IsFlushedTo b place = (c : Core) → IsBookOf b c → c.shared.flushed ≡ place

-- the log of such a table, flushed up to the end of the first of these blocks; the others are gathered
abbrev pub pending_log : Start → (front blocks : List Block) → Log
pending_log o front blocks = record (flushed_log o (front ++ blocks)) { flushed = place_behind o.tail front }

-- how the flush seat's pin stands in the pass's view: there is none, or it is at this place
abbrev pub HasPin : View → Option ℕ → Type 0
HasPin v None = IsUnpinned v
HasPin v (Some place) = IsPinned v × ((part_of v FLUSH_SEAT).current.begin ≡ place)

-- the log with an end that was met, and a pin
abbrev pub ended_log : Log → ℕ → Option ℕ → Log
ended_log log tail pinned = record log { tail = tail; pinned = pinned }

-- What the book tells of the end of its table's log, and of its pin: in whatever state the book is one of, the log ends there or behind it.
pub record KnowsEnd (law : Law) (b : Book) (log : Log) : Type 0 where
  pub is_log : IsLog law.meets log
  pub pin : HasPin b.view log.pinned
  pub ended : (c : Core) → IsBookOf b c → log.tail ≤ c.shared.tail

-- What the book tells of its table's log between two turns: it is flushed as far as blocks were gathered.
pub record KnowsLog (law : Law) (b : Book) (log : Log) : Type 0 where
  pub blocks : List Block
  pub is : log ≡ ended_log (flushed_log b.start blocks) log.tail log.pinned
  pub knows : KnowsBlocks law b.start b blocks
  pub flushed : IsFlushedTo b (place_behind b.start.tail blocks)
  pub end : KnowsEnd law b log

-- what it tells once blocks were gathered behind those that are flushed
pub record AwaitsLog (law : Law) (b : Book) (log : Log) : Type 0 where
  pub front : List Block
  pub blocks : List Block
  pub is : log ≡ ended_log (pending_log b.start front blocks) log.tail log.pinned
  pub knows : KnowsBlocks law b.start b (front ++ blocks)
  pub flushed : IsFlushedTo b (place_behind b.start.tail front)
  pub end : KnowsEnd law b log

-- between two books the log ended at this place, or before it
abbrev pub HasEnded : Book → ℕ → Book → Type 0
HasEnded b place e = WasSeen b (λ c. c.shared.tail ≤ place) e

-- between two books nothing more was to gather at this place: the log ended there, or before it, or a range that wasn't decided began there
abbrev pub HasStopped : Book → ℕ → Book → Type 0
HasStopped b place e = WasSeen b (λ c. (c.shared.tail ≤ place) ⊎ IsOpenAt c.seats place) e
