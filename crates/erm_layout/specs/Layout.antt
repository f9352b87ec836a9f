-- The words of the table, numbered: the tail, the place flushed and the counters, then the seats' words, the entries, the
-- cells' words, the ring and the sessions' back words.
use Rattle.std.specs.Prelude.{ℕ, ◌+◌, ◌-◌, ◌*◌, ◌<◌, ◌≤◌}
use Rattle.erm_model.specs.declared.TheConstants.{ROW_WORDS}
use Rattle.erm_model.specs.declared.limits.TheConstants.{TABLE_CELLS}
use Rattle.erm_machine.specs.declared.limits.TheConstants.{ANNOUNCERS, OBJECT_LIMIT, RING_WORDS, SESSIONS}
use Rattle.erm_machine.specs.declared.event.Counter.TheVariants.{Objects, Cells}
use Rattle.erm_machine.specs.declared.version.CellWord.{CellWord}
use Rattle.erm_machine.specs.declared.version.CellWord.TheVariants.{Stamp, Link, Readers, ReaderStamp, Overwriter, OverwriterSucc, Row}
use Rattle.erm_layout.specs.declared.limits.TheConstants.{SEAT_WORDS, CELL_HEAD_WORDS, CELL_WORDS, SEATS_FROM, ENTRIES_FROM, CELLS_FROM, RING_FROM, BACKS_FROM}
use Rattle.erm_layout.specs.declared.word.Word.{Word}
use Rattle.erm_layout.specs.declared.word.Word.TheVariants as word

-- the word is one of a cell's
abbrev pub IsInCell : CellWord → Type 0
IsInCell Stamp = Unit {0}
IsInCell Link = Unit {0}
IsInCell Readers = Unit {0}
IsInCell ReaderStamp = Unit {0}
IsInCell Overwriter = Unit {0}
IsInCell OverwriterSucc = Unit {0}
IsInCell (Row place) = place < ROW_WORDS

-- the place of a word in its cell
abbrev pub place_in_cell : CellWord → ℕ
place_in_cell Stamp = 0
place_in_cell Link = 1
place_in_cell Readers = 2
place_in_cell ReaderStamp = 3
place_in_cell Overwriter = 4
place_in_cell OverwriterSucc = 5
place_in_cell (Row place) = CELL_HEAD_WORDS + place

-- the word is one of the table's: its seat, object, cell or place of the ring is one that there is
abbrev pub HasNumber : Word → Type 0
HasNumber word.Tail = Unit {0}
HasNumber word.Flushed = Unit {0}
HasNumber (word.Counter counter) = Unit {0}
HasNumber (word.Begin seat) = (1 ≤ seat) × (seat < ANNOUNCERS)
HasNumber (word.State seat) = (1 ≤ seat) × (seat < ANNOUNCERS)
HasNumber (word.Entry oid) = oid < OBJECT_LIMIT
HasNumber (word.Cell cell w) = (cell < TABLE_CELLS) × IsInCell w
HasNumber (word.Ring place) = place < RING_WORDS
HasNumber (word.Back seat) = (1 ≤ seat) × (seat ≤ SESSIONS)

-- the number of a word of the table
abbrev pub index_of : Word → ℕ
index_of word.Tail = 0
index_of word.Flushed = 1
index_of (word.Counter Objects) = 2
index_of (word.Counter Cells) = 3
index_of (word.Begin seat) = SEATS_FROM + SEAT_WORDS * (seat - 1)
index_of (word.State seat) = SEATS_FROM + SEAT_WORDS * (seat - 1) + 1
index_of (word.Entry oid) = ENTRIES_FROM + oid
index_of (word.Cell cell w) = CELLS_FROM + CELL_WORDS * cell + place_in_cell w
index_of (word.Ring place) = RING_FROM + place
index_of (word.Back seat) = BACKS_FROM + (seat - 1)
