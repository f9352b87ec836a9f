-- The rule: the words and the views of all passes stand for a sound state of the machine.
use Rattle.std.specs.Prelude.{◌≡◌, ◌≢◌, ℕ, ◌+◌, ◌-◌, take, zero, suc, if◌then◌else◌, List, [], ◌∷◌, length, map, slice_index}
use mathlib.Core.Option.{some}
use lib.ListN.{get_elem?}
use Rattle.atomic_table.specs.Table.{State}
use Rattle.erm_model.specs.Member.{◌∈◌}
use Rattle.erm_model.specs.declared.limits.TheConstants.{TABLE_CELLS}
use Rattle.erm_model.specs.RowTransaction.{Law, SameRows}
use Rattle.erm_model.specs.Rows.{Rows, rows_of}
use Rattle.erm_layout.specs.declared.limits.TheConstants.{WORDS}
use Rattle.erm_layout.specs.declared.word.Word.{Word}
use Rattle.erm_layout.specs.Layout.{HasNumber, index_of}
use Rattle.erm_machine.specs.declared.limits.TheConstants.{FLUSH_SEAT, SESSIONS}
use Rattle.erm_machine.specs.declared.place.Place.{Place}
use Rattle.erm_machine.specs.declared.place.Place.TheVariants.{Vacant, Idle}
use Rattle.erm_machine.specs.declared.version.Cell.{Cell}
use Rattle.erm_machine.specs.Core.{Core, Shared, fresh_part, is_taken}
use Rattle.erm_machine.specs.Lawful.{Lawful, opening_rows}
use Rattle.erm_machine.specs.Sound.{Sound}
use Rattle.erm_machine.specs.Words.{blank_cell}
use Rattle.erm_core_blocks.specs.Spelled.{AreSpelled}
use Rattle.erm_rule.specs.Books.{Course, HasSeats, TookIn, new_book, view_in}
use Rattle.erm_rule.specs.Cells.{word_in, CellsAre}
use Rattle.erm_rule.specs.Newest.{CutsAtNewest}
use Rattle.erm_rule.specs.declared.view.Book.{Book}
use Rattle.erm_rule.specs.declared.view.Held.{Held}
use Rattle.erm_rule.specs.declared.view.Opening.{Opening}
use Rattle.erm_rule.specs.declared.view.View.{View}
use Rattle.erm_rule.specs.Openings.{start_core, start_of, start_rows}
use Rattle.erm_rule.specs.Views.{of_seats, one_seat, left_of, right_of, IsInOrder, MayGive}

-- The words and the views stand for the state: each word of the table is as the state says, where a cell's words are those
-- of the map, the part of each seat that a view has is the state's, and `holder` is the number of that view. So no seat is in
-- two views. Each view is in order.
pub record Stands (words : List ℕ) (views : List View) (c : Core) (cells : ℕ → Cell) (holder : ℕ → ℕ) : Type 0 where
  pub count : length words ≡ WORDS
  pub words_are : (w : Word) → HasNumber w → slice_index words (index_of w) ≡ word_in c cells w
  pub cells_are : CellsAre c cells
  pub parts_are : (id : ℕ) (v : View) (h : Held) → get_elem? views id ≡ some v → h ∈ v.held → c.seats h.seat ≡ h.part
  pub holders : (id : ℕ) (v : View) (h : Held) → get_elem? views id ≡ some v → h ∈ v.held → holder h.seat ≡ id
  pub in_order : (id : ℕ) (v : View) → get_elem? views id ≡ some v → IsInOrder v

-- no view has the seat
abbrev pub HeldByNone : List View → ℕ → Type 0
HeldByNone views q = (id : ℕ) (v : View) (h : Held) → get_elem? views id ≡ some v → h ∈ v.held → h.seat ≢ q

-- What of a state is the opening's for ever: where its log begins, its run, the number of the first object to make, and the rows
-- of the versions found at opening.
pub record IsOpened (opening : Opening) (s : Shared) : Type 0 where
  pub tail : s.opening ≡ opening.tail
  pub run : s.run ≡ opening.run
  pub first : s.first ≡ opening.first
  pub rows : SameRows (rows_of opening.rows.items) (opening_rows s)

-- Some sound state of this opening, with the table's cells, for which the table stands, and in which each cut in progress cuts
-- behind the newest version below its horizon. A seat that no view has is one that has done nothing. The steps of each pass that has
-- seats lead from the opening's state to this one, and so do those of each book that was taken in, as far as they go.
pub record Kept (opening : Opening) (s : State (Unit {0}) Book) : Type 0 where
  pub core : Core
  pub cells : ℕ → Cell
  pub holder : ℕ → ℕ
  pub stands : Stands s.words (map view_in s.views) core cells holder
  pub others : (q : ℕ) → HeldByNone (map view_in s.views) q → core.seats q ≡ fresh_part Vacant opening.run opening.tail
  pub sound : Sound core
  pub cuts : CutsAtNewest core
  pub courses : (id : ℕ) (b : Book) → get_elem? s.views id ≡ some b → HasSeats b.view → (b.start ≡ start_of opening) × Course b core
  pub pasts : (id : ℕ) (b : Book) → get_elem? s.views id ≡ some b → TookIn b.past core
  pub opened : IsOpened opening core.shared
  pub limit : core.shared.cell_limit ≡ TABLE_CELLS

-- the same, and the state's rows keep the law, and the words of each decided block are the spelling of its transaction
pub record KeptUnder (law : Law) (opening : Opening) (s : State (Unit {0}) Book) : Type 0 where
  pub kept : Kept opening s
  pub lawful : Lawful law kept.core.shared kept.core.seats
  pub spelled : AreSpelled kept.core

-- where a session stands in the first pass: so many are idle, the others vacant
abbrev pub first_place : Opening → ℕ → Place
first_place opening q = if is_taken opening.sessions q then Idle else Vacant

-- the sessions from a number down to 1
abbrev pub sessions_from : Opening → ℕ → List Held
sessions_from opening zero = []
sessions_from opening (suc n) = record { seat = suc n; part = fresh_part (first_place opening (suc n)) opening.run opening.tail } ∷ sessions_from opening n

-- the view of the first pass: the flush seat, which is idle, and all sessions, the first of them last
unfoldable pub first_view : Opening → View
first_view opening = of_seats (record { seat = FLUSH_SEAT; part = fresh_part Idle opening.run opening.tail } ∷ sessions_from opening SESSIONS)

-- the book of the first pass
abbrev pub first_book : Opening → Book
first_book opening = new_book (start_of opening) (first_view opening)

-- the view of the first pass once it has handed out so many sessions
unfoldable pub rest_view : Opening → ℕ → View
rest_view opening given = of_seats (take (FLUSH_SEAT - given) (first_view opening).held)

-- a session as it is handed out
abbrev pub session_view : Opening → ℕ → View
session_view opening q = one_seat q (fresh_part Idle opening.run opening.tail)

-- the first pass hands out the sessions one by one, from session 1 on
pub record HandsOut (opening : Opening) (given : ℕ) : Type 0 where
  pub may : MayGive (rest_view opening given)
  pub left : left_of (rest_view opening given) ≡ rest_view opening (given + 1)
  pub right : right_of (rest_view opening given) ≡ session_view opening (given + 1)

-- the rows of an opening, and zeros for numbers above those of its objects
abbrev pub first_rows : Opening → Rows
first_rows opening = start_rows opening.rows.items

-- the state of an opening
abbrev pub first_core : Opening → Core
first_core opening = start_core (start_of opening)

-- what each cell holds then: those of the objects have their rows
abbrev pub first_cells : Opening → ℕ → Cell
first_cells opening cell = record blank_cell { row = first_rows opening cell }

-- these are the words of that state
pub record IsFirst (opening : Opening) (words : List ℕ) : Type 0 where
  pub count : length words ≡ WORDS
  pub words_are : (w : Word) → HasNumber w → slice_index words (index_of w) ≡ word_in (first_core opening) (first_cells opening) w
