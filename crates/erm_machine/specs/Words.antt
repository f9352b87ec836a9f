-- The words of the machine: what is spelled in one word, and the words of a seat and of a cell.
use Rattle.std.specs.Prelude.{ℕ, ◌+◌, ◌*◌, ◌/◌, ◌%◌, ◌^◌, Bool, not, ◌&&◌, ◌||◌, ◌==◌, nat_lt, nat_le, if◌then◌else◌, bit_or, bit_and, slice_index, slice_set, replicate}
use Rattle.std.specs.Int.{w64, bit_not, trailing_zeros}
use Rattle.erm_machine.specs.declared.limits.TheConstants.{ANNOUNCERS, FLUSH_SEAT, SESSIONS, STOP}
use Rattle.erm_machine.specs.declared.place.Place.{Place}
use Rattle.erm_machine.specs.declared.place.Place.TheVariants.{Vacant, Idle, Begun, Announced, Active, Sealing, Drawn, Sealed, Decided, Leaving}
use Rattle.erm_machine.specs.declared.version.Cell.{Cell}
use Rattle.erm_machine.specs.declared.version.CellWord.{CellWord}
use Rattle.erm_machine.specs.declared.version.CellWord.TheVariants as word

-- the function with one value changed
abbrev pub put : {X : Type 0} → (ℕ → X) → ℕ → X → ℕ → X
put f k v = λ n. if n == k then v else f n

-- the cell at the head of an entry's chain: bits 0 to 23
abbrev pub head_of : ℕ → ℕ
head_of entry = entry % 2 ^ 24

-- the seat that owns an entry, or 0: bits 24 to 31
abbrev pub owner_of : ℕ → ℕ
owner_of entry = entry / 2 ^ 24 % 2 ^ 8

-- the number of the transaction that owns an entry, or 0: bits 32 to 63
abbrev pub number_of : ℕ → ℕ
number_of entry = entry / 2 ^ 32

-- the entry with the same head that a seat's transaction owns
abbrev pub claimed : ℕ → ℕ → ℕ → ℕ
claimed entry seat number = head_of entry + seat * 2 ^ 24 + number * 2 ^ 32

-- reader bits with the bit of a seat set
abbrev pub with_bit : ℕ → ℕ → ℕ
with_bit bits seat = bit_or bits (2 ^ seat)

-- reader bits with the bit of a seat cleared
abbrev pub without_bit : ℕ → ℕ → ℕ
without_bit bits seat = bit_and bits (bit_not w64 (2 ^ seat))

-- the seat is the least one whose bit is set
abbrev pub is_least_bit : ℕ → ℕ → Bool
is_least_bit bits seat = (trailing_zeros w64 bits == seat) && nat_lt seat ANNOUNCERS

-- the begin word of a seat: 0, or the tail that it announces
abbrev pub begin_of : Place → ℕ
begin_of Vacant = 0
begin_of Idle = 0
begin_of (Begun tail) = 0
begin_of (Announced tail) = tail
begin_of (Active tail) = tail
begin_of (Sealing tail) = tail
begin_of (Drawn tail stamp) = tail
begin_of (Sealed tail stamp) = tail
begin_of (Decided tail stamp) = tail
begin_of (Leaving stamp) = 0

-- the state word of a seat: 0 not sealed, 1 sealing, else the stamp sealed
abbrev pub state_of : Place → ℕ
state_of Vacant = 0
state_of Idle = 0
state_of (Begun tail) = 0
state_of (Announced tail) = 0
state_of (Active tail) = 0
state_of (Sealing tail) = 1
state_of (Drawn tail stamp) = 1
state_of (Sealed tail stamp) = stamp
state_of (Decided tail stamp) = stamp
state_of (Leaving stamp) = stamp

-- a look with a bound that finds this state word finds the seat clear: it isn't sealing, and no stamp of it lies below
abbrev pub is_clear : ℕ → ℕ → Bool
is_clear state bound = (state == 0) || (not (state == 1) && nat_le bound state)

-- the seat is a session's
abbrev pub is_session : ℕ → Bool
is_session seat = nat_lt 0 seat && nat_le seat SESSIONS

-- the seat is the flusher's
abbrev pub is_flusher : ℕ → Bool
is_flusher seat = seat == FLUSH_SEAT

-- the seat has words
abbrev pub is_seat : ℕ → Bool
is_seat seat = is_session seat || is_flusher seat

-- a session that finds the tail there doesn't begin
abbrev pub refuses : ℕ → ℕ → Bool
refuses seat tail = not (is_flusher seat) && nat_le STOP tail

-- a word of a cell
abbrev pub cell_word : CellWord → Cell → ℕ
cell_word word.Stamp c = c.stamp
cell_word word.Link c = c.link
cell_word word.Readers c = c.readers
cell_word word.ReaderStamp c = c.reader_stamp
cell_word word.Overwriter c = c.overwriter
cell_word word.OverwriterSucc c = c.overwriter_succ
cell_word (word.Row k) c = slice_index c.row k

-- the cell with one word changed
abbrev pub set_word : CellWord → ℕ → Cell → Cell
set_word word.Stamp v c = record c { stamp = v }
set_word word.Link v c = record c { link = v }
set_word word.Readers v c = record c { readers = v }
set_word word.ReaderStamp v c = record c { reader_stamp = v }
set_word word.Overwriter v c = record c { overwriter = v }
set_word word.OverwriterSucc v c = record c { overwriter_succ = v }
set_word (word.Row k) v c = record c { row = slice_set c.row k v }

-- the words of a cell that was never used
abbrev pub blank_cell : Cell
blank_cell = record { stamp = 0; link = 0; readers = 0; reader_stamp = 0; overwriter = 0; overwriter_succ = 0; row = replicate 16 0 }
