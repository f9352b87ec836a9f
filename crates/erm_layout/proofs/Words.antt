-- Every number below the count of the words is some word's.
use Rattle.std.proofs.Common.{◌≡◌, ℕ, zero, suc, ◌+◌, ◌-◌, ◌*◌, ◌/◌, ◌%◌, ◌<◌, ◌≤◌, inl, inr, refl, subst, arith}
use Rattle.std.proofs.lemmas.Bool.{cases_lt}
use Rattle.erm_model.specs.declared.limits.TheConstants.{TABLE_CELLS}
use Rattle.erm_machine.specs.declared.limits.TheConstants.{ANNOUNCERS}
use Rattle.erm_machine.specs.declared.event.Counter.TheVariants.{Objects, Cells}
use Rattle.erm_machine.specs.declared.version.CellWord.{CellWord}
use Rattle.erm_machine.specs.declared.version.CellWord.TheVariants.{Stamp, Link, Readers, ReaderStamp, Overwriter, OverwriterSucc, Row}
use Rattle.erm_layout.specs.declared.limits.TheConstants.{SEAT_WORDS, CELL_WORDS, SEATS_FROM, ENTRIES_FROM, CELLS_FROM, RING_FROM, BACKS_FROM, WORDS}
use Rattle.erm_layout.specs.declared.word.Word.{Word}
use Rattle.erm_layout.specs.declared.word.Word.TheVariants as word
use Rattle.erm_layout.specs.Layout.{HasNumber, IsInCell, index_of, place_in_cell}

-- a number is some word's
abbrev pub HasWord : ℕ → Type 0
HasWord number = (w : Word) × HasNumber w × (index_of w ≡ number)

-- below the seats' words
pub first_word : (n : ℕ) → n < SEATS_FROM → HasWord n
first_word zero h = (word.Tail, tt, refl)
first_word (suc zero) h = (word.Flushed, tt, refl)
first_word (suc (suc zero)) h = (word.Counter Objects, tt, refl)
first_word (suc (suc (suc zero))) h = (word.Counter Cells, tt, refl)
first_word (suc (suc (suc (suc n)))) h = absurd (omega arith)

-- each place of the seats' words
pub seat_word : (n : ℕ) → n < SEAT_WORDS * (ANNOUNCERS - 1) → HasWord (SEATS_FROM + n)
seat_word n h =
    elim (cases_lt (n % SEAT_WORDS) 1) [
      | inl even ↦ (word.Begin (n / SEAT_WORDS + 1), (omega arith, omega arith), omega arith)
      | inr odd ↦ (word.State (n / SEAT_WORDS + 1), (omega arith, omega arith), omega arith)
    ]

-- each place of a cell
pub word_in_cell : (n : ℕ) → n < CELL_WORDS → (w : CellWord) × IsInCell w × (place_in_cell w ≡ n)
word_in_cell zero h = (Stamp, tt, refl)
word_in_cell (suc zero) h = (Link, tt, refl)
word_in_cell (suc (suc zero)) h = (Readers, tt, refl)
word_in_cell (suc (suc (suc zero))) h = (ReaderStamp, tt, refl)
word_in_cell (suc (suc (suc (suc zero)))) h = (Overwriter, tt, refl)
word_in_cell (suc (suc (suc (suc (suc zero))))) h = (OverwriterSucc, tt, refl)
word_in_cell (suc (suc (suc (suc (suc (suc n)))))) h = (Row n, omega arith, omega arith)

-- each place of the cells' words
pub cell_word : (n : ℕ) → n < CELL_WORDS * TABLE_CELLS → HasWord (CELLS_FROM + n)
cell_word n h =
    let inner = word_in_cell (n % CELL_WORDS) (omega arith) in
    (word.Cell (n / CELL_WORDS) inner.0, (omega arith, inner.1), omega (arith, inner.2))

-- a number with the place that it has in its part
at_place : (from n : ℕ) → from ≤ n → HasWord (from + (n - from)) → HasWord n
at_place from n h has = subst HasWord (omega arith) has

-- every number below the count is some word's
pub word_of_number : (n : ℕ) → n < WORDS → HasWord n
word_of_number n h =
    elim (cases_lt n SEATS_FROM) [
      | inl below ↦ first_word n below
      | inr first ↦
          elim (cases_lt n ENTRIES_FROM) [
            | inl below ↦ at_place SEATS_FROM n first (seat_word (n - SEATS_FROM) (omega arith))
            | inr seats ↦
                elim (cases_lt n CELLS_FROM) [
                  | inl below ↦ (word.Entry (n - ENTRIES_FROM), omega arith, omega arith)
                  | inr entries ↦
                      elim (cases_lt n RING_FROM) [
                        | inl below ↦ at_place CELLS_FROM n entries (cell_word (n - CELLS_FROM) (omega arith))
                        | inr cells ↦
                            elim (cases_lt n BACKS_FROM) [
                              | inl below ↦ (word.Ring (n - RING_FROM), omega arith, omega arith)
                              | inr ring ↦ (word.Back (n - BACKS_FROM + 1), (omega arith, omega arith), omega arith)
                            ]
                      ]
                ]
          ]
    ]
