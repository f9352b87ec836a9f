-- The table when it is made stands for the opening's state.
use Rattle.std.proofs.Common.{◌≡◌, ◌≢◌, ℕ, zero, suc, ◌+◌, ◌<◌, ◌≤◌, ⊎_elim, Bool, true, false, List, [], ◌∷◌, ◌++◌, length, get_or, replicate, refl, sym, ap, ◌∙◌, subst, arith}
use Rattle.std.specs.Prelude.{if◌then◌else◌}
use Rattle.std.proofs.lemmas.List.{get_or_append_left, get_or_default, get_or_past, get_or_push, length-append, length-replicate}
use Rattle.std.proofs.lemmas.Bool.{cases_eq, cases_lt, lt-ltb}
use mathlib.Core.Option.{some, some-injective, some-ne-none}
use lib.ListN.{get_elem?}
use Rattle.atomic_table.specs.Table.{State}
use Rattle.atomic_table.specs.Table as table
use Rattle.erm_layout.specs.declared.limits.TheConstants.{WORDS}
use Rattle.erm_layout.specs.declared.word.Word.{Word}
use Rattle.erm_layout.specs.Layout.{HasNumber, index_of}
use Rattle.erm_machine.specs.declared.attempt.Attempt.{Attempt}
use Rattle.erm_machine.specs.declared.limits.TheConstants.{FLUSH_SEAT, MOST_CELLS, OBJECT_LIMIT, SESSIONS, STOP}
use Rattle.erm_machine.specs.declared.place.Place.{Place}
use Rattle.erm_machine.specs.declared.place.Place.TheVariants.{Vacant, Idle}
use Rattle.erm_machine.specs.Core.{blank, version_at, no_object, opened_object, fresh_part, opening_state, is_taken}
use Rattle.erm_machine.specs.Lawful.{Lawful, opening_rows}
use Rattle.erm_machine.specs.Sound.{Sound}
use Rattle.erm_machine.specs.Words.{blank_cell, is_seat}
use Rattle.erm_core_blocks.specs.Spelled.{AreSpelled}
use Rattle.erm_model.specs.declared.limits.TheConstants.{TABLE_CELLS}
use Rattle.erm_model.specs.Member.{◌∈◌}
use Rattle.erm_model.specs.RowTransaction.{Law, RespectsRows, SameRows}
use Rattle.erm_model.specs.Rows.{Rows, rows_of}
use Rattle.erm_model.proofs.Members.{none_in_nil, ∈-push}
use Rattle.erm_rule.specs.declared.view.Book.{Book}
use Rattle.erm_rule.specs.declared.view.Held.{Held}
use Rattle.erm_rule.specs.declared.view.Opening.{Opening}
use Rattle.erm_rule.specs.declared.view.View.{View}
use Rattle.erm_rule.specs.Books.{Course, HasSeats, TookIn}
use Rattle.erm_rule.specs.Openings.{start_of}
use Rattle.erm_rule.specs.Cells.{word_in, ObjectCells, SeatCells, CellsAre}
use Rattle.erm_rule.specs.Rule.{Stands, HeldByNone, KeptUnder, IsFirst, first_cells, first_core, first_place, first_rows, sessions_from, first_view, first_book}
use Rattle.erm_rule.specs.Views.{EachOnce, IsInOrder}
use Rattle.erm_rule.specs.Went.{HasAll}
use Rattle.erm_rule.proofs.Allowed.{Below, OneNumber}
use Rattle.erm_rule.proofs.Parts.{here, behind, split_at, none_there}

-- the law that an opening's state is sound
abbrev pub OpensSound : Type 0
OpensSound =
    (sessions : ℕ) (rows : Rows) (tail run first cells : ℕ) → sessions ≤ SESSIONS → 0 < tail → tail ≤ STOP + 4 → first ≤ OBJECT_LIMIT
    → OBJECT_LIMIT ≤ cells → cells ≤ MOST_CELLS → ((oid : ℕ) → oid < OBJECT_LIMIT → length (rows oid) ≡ 16) → Sound (opening_state sessions rows tail run first cells)

-- the law that an opening's blocks are spelled
abbrev pub OpensSpelled : Type 0
OpensSpelled = (sessions : ℕ) (rows : Rows) (tail run first cells : ℕ) → AreSpelled (opening_state sessions rows tail run first cells)

-- THE WORDS, stored one after another
-- The words below a number are those of the opening's state.
pub record IsFirstUpTo (o : Opening) (upto : ℕ) (words : List ℕ) : Type 0 where
  pub count : length words ≡ upto
  pub words_are : (w : Word) → HasNumber w → index_of w < upto → get_or words (index_of w) 0 ≡ word_in (first_core o) (first_cells o) w

pub none_yet : (o : Opening) → IsFirstUpTo o 0 []
none_yet o = record { count = refl; words_are = λ w has below. absurd (omega (arith, below)) }

-- one more word
pub one_more : OneNumber → (o : Opening) (words : List ℕ) (number n : ℕ) (w : Word) → HasNumber w → index_of w ≡ number → n ≡ word_in (first_core o) (first_cells o) w → IsFirstUpTo o number words →
    IsFirstUpTo o (number + 1) (words ++ n ∷ [])
one_more one_number o words number n w has at value is =
    let size = is.count in
    record {
      count = length-append words (n ∷ []) ∙ ap (λ m. m + 1) is.count;
      words_are = λ u known below.
          ⊎_elim
          (λ (before : index_of u < number). get_or_append_left words (n ∷ []) 0 (index_of u) (omega (arith, size, before)) ∙ is.words_are u known before)
          (λ (last : number ≤ index_of u).
          let here : index_of u ≡ number = omega (arith, last, below) in
          let same : u ≡ w = one_number u w known has (here ∙ sym at) in
          get_or_push words n 0 (index_of u) (is.count ∙ sym here) ∙ value ∙ ap (word_in (first_core o) (first_cells o)) (sym same))
          (cases_lt (index_of u) number);
    }

pub all_words : Below → (o : Opening) (words : List ℕ) → IsFirstUpTo o WORDS words → IsFirst o words
all_words below o words is = record { count = is.count; words_are = λ w has. is.words_are w has (below w has) }

-- the sessions of the first view
pub session_in : (o : Opening) (n : ℕ) (h : Held) → h ∈ sessions_from o n → (1 ≤ h.seat) × (h.seat ≤ n) × (h.part ≡ fresh_part (first_place o h.seat) o.run o.tail)
session_in o zero h m = absurd (none_there h m)
session_in o (suc n) h m =
    ⊎_elim
    (λ (same : record { seat = suc n; part = fresh_part (first_place o (suc n)) o.run o.tail } ≡ h).
    let s : suc n ≡ h.seat = ap (λ (z : Held). z.seat) same in
    let q : fresh_part (first_place o (suc n)) o.run o.tail ≡ h.part = ap (λ (z : Held). z.part) same in
    (omega (arith, s), omega (arith, s), sym q ∙ ap (λ (i : ℕ). fresh_part (first_place o i) o.run o.tail) s))
    (λ later. let old = session_in o n h later in let low = old.0 in let high = old.1 in (low, omega (arith, high), old.2))
    (split_at _ h (sessions_from o n) m)

-- each session up to that number is among them
session_there : (o : Opening) (n q : ℕ) → 1 ≤ q → q ≤ n → (h : Held) × (h ∈ sessions_from o n) × (h.seat ≡ q)
session_there o zero q low high = absurd (omega (arith, low, high))
session_there o (suc n) q low high =
    ⊎_elim
    (λ (below : q < suc n). let old = session_there o n q low (omega (arith, below)) in (old.0, behind _ old.0 (sessions_from o n) old.1, old.2))
    (λ (above : suc n ≤ q).
    let first : Held = record { seat = suc n; part = fresh_part (first_place o (suc n)) o.run o.tail } in
    (first, here first first (sessions_from o n) refl, omega (arith, above, high)))
    (cases_lt q (suc n))

once_sessions : (o : Opening) (n : ℕ) → EachOnce (sessions_from o n)
once_sessions o zero = tt
once_sessions o (suc n) = ((λ h m. λ same. let high = (session_in o n h m).1 in omega (arith, high, same)), once_sessions o n)

-- which seats are taken at an opening: the flush seat, and no other that isn't a session
flusher_taken : (n q : ℕ) → q ≡ FLUSH_SEAT → is_taken n q ≡ true
flusher_taken n q same = grind arith

-- a seat that isn't the flush seat is a session
session_bounds : (q : ℕ) → is_seat q ≡ true → q ≢ FLUSH_SEAT → (1 ≤ q) × (q ≤ SESSIONS)
session_bounds q seat ne = (grind (arith, seat, ne), grind (arith, seat, ne))

untaken : (n q : ℕ) → n ≤ SESSIONS → q ≢ FLUSH_SEAT → (1 ≤ q → q ≤ SESSIONS → ⊥) → is_taken n q ≡ false
untaken n q few ne no_session =
    ⊎_elim
    (λ (none : q < 1). grind (arith, none))
    (λ (some_number : 1 ≤ q).
    ⊎_elim
    (λ (above : SESSIONS < q). grind (arith, few, above, ne))
    (λ (within : q ≤ SESSIONS). absurd (no_session some_number within))
    (cases_lt SESSIONS q))
    (cases_lt q 1)

module _ (o : Opening) where
  -- what is so of the flush seat and of each session is so of each seat of the first view
  each_first : (P : Held → Type 0) → P (record { seat = FLUSH_SEAT; part = fresh_part Idle o.run o.tail }) →
      ((q : ℕ) → 1 ≤ q → q ≤ SESSIONS → P (record { seat = q; part = fresh_part (first_place o q) o.run o.tail })) → (h : Held) → h ∈ (first_view o).held → P h
  unfolding first_view
  each_first P flush session h m =
      ⊎_elim (λ (same : record { seat = FLUSH_SEAT; part = fresh_part Idle o.run o.tail } ≡ h). subst P same flush)
      (λ later.
      let is = session_in o SESSIONS h later in
      subst (λ x. P (record { seat = h.seat; part = x })) (sym is.2) (session h.seat is.0 is.1))
      (split_at _ h (sessions_from o SESSIONS) m)

  a_session : (q : ℕ) → 1 ≤ q → q ≤ SESSIONS → is_seat q ≡ true
  a_session q low high = grind arith

  first_parts : (h : Held) → h ∈ (first_view o).held → (first_core o).seats h.seat ≡ h.part
  first_parts = each_first (λ h. (first_core o).seats h.seat ≡ h.part)
      (ap (λ (b : Bool). fresh_part (if b then Idle else Vacant) o.run o.tail) (flusher_taken o.sessions FLUSH_SEAT refl))
      (λ q low high. refl)

  first_seats : (h : Held) → h ∈ (first_view o).held → is_seat h.seat ≡ true
  first_seats = each_first (λ h. is_seat h.seat ≡ true) refl a_session

  one_view : (P : View → Type 0) → P (first_view o) → (id : ℕ) (v : View) → get_elem? (first_view o ∷ []) id ≡ some v → P v
  one_view P first zero v e = subst P (some-injective (first_view o) v e) first
  one_view P first (suc id) v e = absurd (some-ne-none v (sym e))

  one_number : (id : ℕ) (v : View) → get_elem? (first_view o ∷ []) id ≡ some v → 0 ≡ id
  one_number zero v e = refl
  one_number (suc id) v e = absurd (some-ne-none v (sym e))

  -- ROWS
  module _ (count : length o.rows.items ≡ OBJECT_LIMIT) where
    row_is : (oid : ℕ) → oid < OBJECT_LIMIT → first_rows o oid ≡ rows_of o.rows.items oid
    row_is oid known = get_or_default o.rows.items oid (replicate 16 0) [] (omega (arith, known, count))

    -- above the objects all is zeros
    no_row : (cell : ℕ) → OBJECT_LIMIT ≤ cell → first_rows o cell ≡ replicate 16 0
    no_row cell late = get_or_past o.rows.items cell (replicate 16 0) (omega (arith, late, count))

    rows_there : SameRows (rows_of o.rows.items) (opening_rows (first_core o).shared)
    rows_there oid known =
        sym (row_is oid known) ∙ ap (λ (b : Bool). (version_at (if b then opened_object (first_rows o) oid else no_object) 0).words.row) (sym (lt-ltb oid OBJECT_LIMIT known))

    module _ (wide : (oid : ℕ) → oid < length o.rows.items → length (get_or o.rows.items oid []) ≡ 16) where
      row_wide : (cell : ℕ) → length (first_rows o cell) ≡ 16
      row_wide cell =
          ⊎_elim
          (λ (known : cell < OBJECT_LIMIT). ap (λ (l : List ℕ). length l) (row_is cell known) ∙ wide cell (omega (arith, known, count)))
          (λ (late : OBJECT_LIMIT ≤ cell). ap (λ (l : List ℕ). length l) (no_row cell late) ∙ length-replicate {A = ℕ} 16 0)
          (cases_lt cell OBJECT_LIMIT)

      opened_cells : (oid : ℕ) → ObjectCells (first_cells o) (opened_object (first_rows o) oid)
      opened_cells oid = record { are = λ place attached within. one place within }
        where
          one : (place : ℕ) → place < length (opened_object (first_rows o) oid).versions →
              first_cells o (version_at (opened_object (first_rows o) oid) place).cell ≡ (version_at (opened_object (first_rows o) oid) place).words
          one zero within = refl
          one (suc place) within = absurd (omega (arith, within))

      no_own : (pl : Place) → SeatCells (first_cells o) (fresh_part pl o.run o.tail)
      no_own pl = record { owns = λ k own is. absurd (cc); spares = λ own m. absurd (none_in_nil own m) }

      cells_there : CellsAre (first_core o) (first_cells o)
      cells_there = record {
        rows = row_wide;
        objects = λ oid known.
            subst (λ (b : Bool). ObjectCells (first_cells o) (if b then opened_object (first_rows o) oid else no_object)) (sym (lt-ltb oid OBJECT_LIMIT known)) (opened_cells oid);
        seats = λ q below. no_own (if is_taken o.sessions q then Idle else Vacant);
        undrawn = λ cell late. ap (λ (row : List ℕ). record blank_cell { row = row }) (no_row cell late);
      }

  first_stands : CellsAre (first_core o) (first_cells o) → (words : List ℕ) → IsFirst o words → Stands words (first_view o ∷ []) (first_core o) (first_cells o) (λ _. 0)
  unfolding first_view
  first_stands cells words is = record {
    count = is.count;
    words_are = is.words_are;
    cells_are = cells;
    parts_are = λ id v h e m. one_view (λ (u : View). (h : Held) → h ∈ u.held → (first_core o).seats h.seat ≡ h.part) first_parts id v e h m;
    holders = λ id v h e m. one_number id v e;
    in_order = one_view IsInOrder (record {
      once = ((λ h m same. let high = (session_in o SESSIONS h m).1 in omega (arith, high, same)), once_sessions o SESSIONS);
      seats = first_seats;
    });
  }

  -- a seat that the first view doesn't have isn't the flush seat, and no session
  first_others : o.sessions ≤ SESSIONS → (q : ℕ) → HeldByNone (first_view o ∷ []) q → (first_core o).seats q ≡ fresh_part Vacant o.run o.tail
  unfolding first_view
  first_others few q none =
      let flush : Held = record { seat = FLUSH_SEAT; part = fresh_part Idle o.run o.tail } in
      let ne : FLUSH_SEAT ≢ q = none 0 (first_view o) flush refl (here flush flush (sessions_from o SESSIONS) refl) in
      let no_session : 1 ≤ q → q ≤ SESSIONS → ⊥ = λ low high. (let h = session_there o SESSIONS q low high in none 0 (first_view o) h.0 refl (behind flush h.0 (sessions_from o SESSIONS) h.1) h.2) in
      ap (λ (b : Bool). fresh_part (if b then Idle else Vacant) o.run o.tail) (untaken o.sessions q few (λ same. ne (sym same)) no_session)

  -- the first view has all seats
  pub first_all : HasAll (first_view o)
  unfolding first_view
  first_all q seat none =
      let flush : Held = record { seat = FLUSH_SEAT; part = fresh_part Idle o.run o.tail } in
      ⊎_elim
      (λ (same : q ≡ FLUSH_SEAT). none flush (here flush flush (sessions_from o SESSIONS) refl) (sym same))
      (λ (ne : q ≡ FLUSH_SEAT → ⊥).
      let bounds = session_bounds q seat ne in
      let h = session_there o SESSIONS q bounds.0 bounds.1 in
      none h.0 (behind flush h.0 (sessions_from o SESSIONS) h.1) h.2)
      (cases_eq q FLUSH_SEAT)

  first_lawful : (law : Law) → RespectsRows law → law.meets (rows_of o.rows.items) → ((oid : ℕ) → o.first ≤ oid → law.reach (rows_of o.rows.items) oid ≡ 0) → length o.rows.items ≡ OBJECT_LIMIT →
      Lawful law (first_core o).shared (first_core o).seats
  first_lawful law respects meets unreached count =
      let there = rows_there count in
      record {
        opening = (respects.meets (rows_of o.rows.items) (opening_rows (first_core o).shared) there).0 meets;
        below = λ oid above. sym (respects.reach (rows_of o.rows.items) (opening_rows (first_core o).shared) oid there meets) ∙ unreached oid above;
        lawful = λ seat t m drawn.
            let none : t.stamp ≡ 0 = ⊎_elim (λ (before : t ∈ []). absurd (none_in_nil t before)) (λ (is : t ≡ blank). ap (λ (a : Attempt). a.stamp) is) (∈-push [] blank t m) in
            absurd (omega (arith, none, drawn));
      }

  one_book : (P : Book → Type 0) → P (first_book o) → (id : ℕ) (b : Book) → get_elem? (first_book o ∷ []) id ≡ some b → P b
  one_book P first zero b e = subst P (some-injective (first_book o) b e) first
  one_book P first (suc id) b e = absurd (some-ne-none b (sym e))

  pub first_kept : (law : Law) → RespectsRows law → law.meets (rows_of o.rows.items) → ((oid : ℕ) → o.first ≤ oid → law.reach (rows_of o.rows.items) oid ≡ 0) → OpensSound → OpensSpelled → o.sessions ≤ SESSIONS → 0 < o.tail → o.tail ≤ STOP + 4 → o.first ≤ OBJECT_LIMIT → length o.rows.items ≡ OBJECT_LIMIT →
      ((oid : ℕ) → oid < length o.rows.items → length (get_or o.rows.items oid []) ≡ 16) → (words : List ℕ) → IsFirst o words → KeptUnder law o (table.opening words [] (first_book o))
  first_kept law respects meets unreached opens spelled few positive low first count wide words is = record {
    kept = record {
      core = first_core o;
      cells = first_cells o;
      holder = λ _. 0;
      stands = first_stands (cells_there count wide) words is;
      others = first_others few;
      sound = opens o.sessions (first_rows o) o.tail o.run o.first TABLE_CELLS few positive low first (omega arith) (omega arith) (λ oid known. row_wide count wide oid);
      cuts = λ q. tt;
      courses = one_book (λ b. HasSeats b.view → (b.start ≡ start_of o) × Course b (first_core o)) (λ _. (refl, (0, refl)));
      pasts = one_book (λ b. TookIn b.past (first_core o)) (λ m within. absurd (none_there m within));
      opened = record { tail = refl; run = refl; first = refl; rows = rows_there count };
      limit = refl;
    };
    lawful = first_lawful law respects meets unreached count;
    spelled = spelled o.sessions (first_rows o) o.tail o.run o.first TABLE_CELLS;
  }
