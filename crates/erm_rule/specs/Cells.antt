-- The words of the table as the state has them. What each cell holds is said by a map from cells to their words, which agrees
-- with the state wherever the state mentions a cell: so a cell that changes hands changes nothing here.
use Rattle.std.specs.Prelude.{◌≡◌, ℕ, ◌<◌, ◌≤◌, length, Some}
use Rattle.erm_layout.specs.declared.word.Word.{Word}
use Rattle.erm_layout.specs.declared.word.Word.TheVariants as table
use Rattle.erm_machine.specs.declared.limits.TheConstants.{ANNOUNCERS, OBJECT_LIMIT}
use Rattle.erm_machine.specs.declared.attempt.OwnCell.{OwnCell}
use Rattle.erm_machine.specs.declared.event.Kind.{Kind}
use Rattle.erm_machine.specs.declared.event.Kind.TheVariants as kind
use Rattle.erm_machine.specs.declared.part.Part.{Part}
use Rattle.erm_machine.specs.declared.version.Cell.{Cell}
use Rattle.erm_machine.specs.declared.version.CellWord.{CellWord}
use Rattle.erm_machine.specs.declared.version.CellWord.TheVariants as word
use Rattle.erm_machine.specs.Core.{Core, Object, version_at, claim_at, drawn_of}
use Rattle.erm_machine.specs.Words.{put, begin_of, state_of, cell_word, set_word, blank_cell}
use Rattle.erm_model.specs.Member.{◌∈◌}

-- a word of the table: the state's, or what the map says of a cell
abbrev pub word_in : Core → (ℕ → Cell) → Word → ℕ
word_in c cells table.Tail = c.shared.tail
word_in c cells table.Flushed = c.shared.flushed
word_in c cells (table.Counter counter) = drawn_of counter c.shared
word_in c cells (table.Begin seat) = begin_of (c.seats seat).place
word_in c cells (table.State seat) = state_of (c.seats seat).place
word_in c cells (table.Entry oid) = (c.shared.objects oid).entry
word_in c cells (table.Cell cell w) = cell_word w (cells cell)
word_in c cells (table.Ring place) = c.shared.ring place
word_in c cells (table.Back seat) = (c.seats seat).back

-- the cells of an object's chain have the words of its versions
pub record ObjectCells (cells : ℕ → Cell) (o : Object) : Type 0 where
  pub are : (place : ℕ) → o.cut ≤ place → place < length o.versions → cells (version_at o place).cell ≡ (version_at o place).words

-- a seat's own cells, those of its claims and the spare ones, have the words that the seat keeps of them
pub record SeatCells (cells : ℕ → Cell) (x : Part) : Type 0 where
  pub owns : (k : ℕ) (own : OwnCell) → (claim_at x.current k).own ≡ Some own → cells own.cell ≡ own.words
  pub spares : (own : OwnCell) → own ∈ x.spare → cells own.cell ≡ own.words

-- The map agrees with the state on all cells that the state mentions. A cell that wasn't drawn is blank, and each has a row of
-- 16 words.
pub record CellsAre (c : Core) (cells : ℕ → Cell) : Type 0 where
  pub rows : (cell : ℕ) → length (cells cell).row ≡ 16
  pub objects : (oid : ℕ) → oid < OBJECT_LIMIT → ObjectCells cells (c.shared.objects oid)
  pub seats : (seat : ℕ) → seat < ANNOUNCERS → SeatCells cells (c.seats seat)
  pub undrawn : (cell : ℕ) → c.shared.cells_drawn ≤ cell → cells cell ≡ blank_cell

-- the map with one word of a cell changed
abbrev pub change : ℕ → CellWord → ℕ → (ℕ → Cell) → ℕ → Cell
change cell w n cells = put cells cell (set_word w n (cells cell))

-- the map after a step of this kind, which leaves that number in the word that it meets
abbrev pub cells_after : Kind → ℕ → (ℕ → Cell) → ℕ → Cell
cells_after (kind.StoreCell place cell w value) n cells = change cell w n cells
cells_after (kind.SetReader v) n cells = change v.cell word.Readers n cells
cells_after (kind.ClearReader v) n cells = change v.cell word.Readers n cells
cells_after (kind.RaiseReader v value) n cells = change v.cell word.ReaderStamp n cells
cells_after (kind.StoreSucc v value) n cells = change v.cell word.OverwriterSucc n cells
cells_after (kind.StoreOverwriter v value) n cells = change v.cell word.Overwriter n cells
cells_after (kind.SwapLink v) n cells = change v.cell word.Link n cells
cells_after _ n cells = cells

-- The kinds whose steps are told of: splits and joins change two seats' parts, or none.
abbrev pub IsTold : Kind → Type 0
IsTold (kind.Split other) = ⊥
IsTold (kind.Join other) = ⊥
IsTold _ = Unit {0}
