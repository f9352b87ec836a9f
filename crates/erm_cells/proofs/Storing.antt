-- A row stored into a claim's own cell, word after word.
use Rattle.std.proofs.Common.{◌≡◌, ℕ, zero, suc, ◌+◌, ◌-◌, ◌<◌, Bool, true, false, not, List, [], ◌∷◌, length, set, get_or, take, Some, None, Option, refl, sym, ap, ◌∙◌, subst, arith, eqb}
use Rattle.std.specs.Prelude.{if◌then◌else◌}
use Rattle.std.proofs.lemmas.Bool.{eq-eqb, lt-ltb, ne_eqb}
use Rattle.std.proofs.lemmas.List.{get_or-set_same, length-set, set-get_or, take-set, take_all, take_more_same}
use Rattle.erm_model.proofs.Members.{∈-at}
use Rattle.erm_machine.specs.declared.attempt.Attempt.{Attempt}
use Rattle.erm_machine.specs.declared.attempt.Claim.{Claim}
use Rattle.erm_machine.specs.declared.attempt.OwnCell.{OwnCell}
use Rattle.erm_machine.specs.declared.part.Part.{Part}
use Rattle.erm_machine.specs.declared.task.Task.{Task}
use Rattle.erm_machine.specs.declared.task.Task.TheVariants as task
use Rattle.erm_machine.specs.declared.version.CellWord.TheVariants as word
use Rattle.erm_machine.specs.Core.{Core, claim_at, no_claim, own_words}
use Rattle.erm_machine.specs.Reading.{stored_row, start_row, store_row_word, with_own_word}
use Rattle.erm_machine.specs.Seat.{is_active, is_own, last_claim, may_start, with_claim}
use Rattle.erm_machine.specs.Settling.{store_active_word, store_cell}
use Rattle.erm_machine.specs.Sound.{Sound}
use Rattle.erm_machine.proofs.Listed.{∈-head, ∈-second}
use Rattle.erm_rule.specs.declared.view.View.{View}
use Rattle.erm_rule.specs.Hands.{IsKnown}
use Rattle.erm_rule.specs.Steps.{Ready, Told}
use Rattle.erm_rule.specs.Views.{part_in, part_of, with_part}
use Rattle.erm_rule.proofs.Numbered.{known_after}
use Rattle.erm_rule.proofs.Parts.{with_part-same}
use Rattle.erm_rule.proofs.Telling.{changed_here, part_of-changed}
use Rattle.erm_rule.proofs.Stored.{own_of, own_within}
use Rattle.erm_cells.specs.Placed.{Owns, own_kind, place_of}
use Rattle.erm_cells.specs.Rows.{DidStoreRow, MayStoreRow, is_copying, part_with_rows, with_own_row}
use Rattle.erm_cells.proofs.Claimed.{claim_again, claim_set, claims_set}
use Rattle.erm_cells.proofs.Heads.{has}
use Rattle.erm_cells.proofs.Placing.{known_owns, known_place, owns_now, place_kept, placed_is, ready_placed}
use Rattle.erm_cells.proofs.Views.{when_true, both, first_branch, refuse}

-- OWN CELLS. The row of one changes, and not its number.
own_row_kept : (cell : ℕ) (row : List ℕ) (o : Option OwnCell) → is_own cell (with_own_row row o) ≡ is_own cell o
own_row_kept cell row None = refl
own_row_kept cell row (Some own) = refl

own_row_same : (o : Option OwnCell) → with_own_row (own_words o).row o ≡ o
own_row_same None = refl
own_row_same (Some own) = refl

own_row_word : (k value : ℕ) (row : List ℕ) (o : Option OwnCell) → with_own_word (word.Row k) value (with_own_row row o) ≡ with_own_row (set row k value) o
own_row_word k value row None = refl
own_row_word k value row (Some own) = refl

-- TASKS. Where so many words are stored.
abbrev row_task : Bool → ℕ → ℕ → Task → Task
row_task copies place k t = if eqb k 0 then t else if eqb k 16 then task.Rest else if copies then task.Copies k else task.Writes place k

abbrev next_task : Bool → ℕ → ℕ → Task
next_task copies place k = if eqb (k + 1) 16 then task.Rest else if copies then task.Copies (k + 1) else task.Writes place (k + 1)

next_is : (copies : Bool) (place k : ℕ) (t : Task) → row_task copies place (k + 1) t ≡ next_task copies place k
next_is copies place k t = refuse (eqb (k + 1) 0) t (next_task copies place k) (ne_eqb (k + 1) 0 (λ e. omega (arith, e)))

later : (copies : Bool) (place k : ℕ) (t : Task) → 0 < k → k < 16 → row_task copies place k t ≡ (if copies then task.Copies k else task.Writes place k)
later copies place k t some low =
    refuse (eqb k 0) t (if eqb k 16 then task.Rest else if copies then task.Copies k else task.Writes place k) (ne_eqb k 0 (λ e. omega (arith, e, some)))
    ∙ refuse (eqb k 16) task.Rest (if copies then task.Copies k else task.Writes place k) (ne_eqb k 16 (λ e. omega (arith, e, low)))

-- the part after one more word
abbrev stored_part : Bool → ℕ → ℕ → ℕ → Part → Part
stored_part copies place k value y = record y { task = next_task copies place k; current = stored_row place k value (not copies) y.current }

-- a row may be stored at the place of a claim, in the terms of the guards
pub record MayAt (cell place : ℕ) (row : List ℕ) (x : Part) (t : Task) : Type 0 where
  pub own : is_own cell (claim_at x.current place).own ≡ true
  pub copies : is_copying t ≡ true → (t ≡ task.Copies 0) × (place ≡ last_claim x.current) × (row ≡ (claim_at x.current place).base)
  pub starts : is_copying t ≡ false → may_start t ≡ true

-- GUARDS
module _ (cell place k value : ℕ) (y : Part) (own : is_own cell (claim_at y.current place).own ≡ true) (low : k < 16) where
  copy_guard : place ≡ last_claim y.current → value ≡ get_or (claim_at y.current place).base k 0 → store_row_word place cell k value y (task.Copies k) ≡ Some (stored_part true place k value y)
  copy_guard last is =
      when_true _ (stored_part true place k value y)
      (both _ _ (both _ _ (both _ _ (both _ _ (eq-eqb place (last_claim y.current) last) own) (eq-eqb k k refl)) (lt-ltb k 16 low)) (eq-eqb value (get_or (claim_at y.current place).base k 0) is))

  write_guard : store_row_word place cell k value y (task.Writes place k) ≡ Some (stored_part false place k value y)
  write_guard =
      when_true _ (stored_part false place k value y)
      (both _ _ (both _ _ (both _ _ (eq-eqb place place refl) own) (eq-eqb k k refl)) (lt-ltb k 16 low))

starts : (place cell k value : ℕ) (y : Part) (t : Task) → may_start t ≡ true → store_row_word place cell k value y t ≡ start_row place cell k value y t
starts place cell k value y (task.Copies w) e = absurd (cc)
starts place cell k value y (task.Writes claim w) e = absurd (cc)
starts place cell k value y _ e = refl

start_guard : (cell place value : ℕ) (y : Part) (t : Task) → is_own cell (claim_at y.current place).own ≡ true → may_start t ≡ true → place < length y.current.writes
    → store_row_word place cell 0 value y t ≡ Some (stored_part false place 0 value y)
start_guard cell place value y t own may within =
    starts place cell 0 value y t may
    ∙ when_true _ (stored_part false place 0 value y) (both _ _ (both _ _ (both _ _ may (lt-ltb place (length y.current.writes) within)) own) refl)

row_guard : (copies : Bool) (cell place k value : ℕ) (y : Part) (t : Task) → is_own cell (claim_at y.current place).own ≡ true → k < 16 → place < length y.current.writes
    → (copies ≡ true → (t ≡ task.Copies 0) × (place ≡ last_claim y.current) × (value ≡ get_or (claim_at y.current place).base k 0)) → (copies ≡ false → may_start t ≡ true)
    → store_row_word place cell k value y (row_task copies place k t) ≡ Some (stored_part copies place k value y)
row_guard true cell place zero value y t own low within copying starting =
    subst (λ (u : Task). store_row_word place cell 0 value y u ≡ Some (stored_part true place 0 value y)) (sym (copying refl).0)
    (copy_guard cell place 0 value y own low (copying refl).1 (copying refl).2)
row_guard false cell place zero value y t own low within copying starting = start_guard cell place value y t own (starting refl) within
row_guard true cell place (suc m) value y t own low within copying starting =
    subst (λ (u : Task). store_row_word place cell (suc m) value y u ≡ Some (stored_part true place (suc m) value y))
    (sym (later true place (suc m) t (omega arith) low))
    (copy_guard cell place (suc m) value y own low (copying refl).1 (copying refl).2)
row_guard false cell place (suc m) value y t own low within copying starting =
    subst (λ (u : Task). store_row_word place cell (suc m) value y u ≡ Some (stored_part false place (suc m) value y))
    (sym (later false place (suc m) t (omega arith) low))
    (write_guard cell place (suc m) value y own low)

-- ROWS. One more word of a row that is set.
more : (row r : List ℕ) (k : ℕ) → length r ≡ 16 → length row ≡ 16 → k < 16 → take k r ≡ take k row → take (k + 1) (set r k (get_or row k 0)) ≡ take (k + 1) row
more row r k size all low front =
    let n = length-set r k (get_or row k 0) in
    take_more_same (set r k (get_or row k 0)) row k 0 (omega (arith, n, size, low)) (omega (arith, all, low)) (take-set r k (get_or row k 0) ∙ front)
    (get_or-set_same r k (get_or row k 0) 0 (omega (arith, size, low)))

full : (row r : List ℕ) → length r ≡ 16 → length row ≡ 16 → take 16 r ≡ take 16 row → r ≡ row
full row r size all front = sym (take_all 16 r (omega (arith, size))) ∙ front ∙ take_all 16 row (omega (arith, all))

-- THE PART. So many words of the row are stored into the claim's row and into its cell's.
pub record Storing (cell : ℕ) (row : List ℕ) (k : ℕ) (x y : Part) : Type 0 where
  pub own_is : is_own cell (claim_at x.current (place_of cell x)).own ≡ true
  pub rows : List ℕ
  pub own_rows : List ℕ
  pub size : length rows ≡ 16
  pub own_size : length own_rows ≡ 16
  pub front : take k rows ≡ take k row
  pub own_front : take k own_rows ≡ take k row
  pub is_set : Bool
  pub set_is : 0 < k → is_set ≡ not (is_copying x.task)
  pub is : y ≡ part_with_rows (place_of cell x) rows own_rows is_set (row_task (is_copying x.task) (place_of cell x) k x.task) x

module _ (cell : ℕ) (row : List ℕ) (x : Part) (may : MayAt cell (place_of cell x) row x x.task) (all : length row ≡ 16) where
  abbrev place : ℕ
  place = place_of cell x

  abbrev copies : Bool
  copies = is_copying x.task

  within : place < length x.current.writes
  within = own_within cell x place may.own

  module _ (rows own_rows : List ℕ) (is_set : Bool) (t : Task) where
    abbrev y : Part
    y = part_with_rows place rows own_rows is_set t x

    abbrev w : Claim
    w = record (claim_at x.current place) { row = rows; own = with_own_row own_rows (claim_at x.current place).own; is_set = is_set }

    claim_is : claim_at y.current place ≡ w
    claim_is = claim_set x.current place w within

    owned : is_own cell (claim_at y.current place).own ≡ true
    owned = ap (λ (u : Claim). is_own cell u.own) claim_is ∙ own_row_kept cell own_rows (claim_at x.current place).own ∙ may.own

    many : length y.current.writes ≡ length x.current.writes
    many = claims_set x.current place w

    placed : place_of cell y ≡ place
    placed = place_kept cell place x y w refl (own_row_kept cell own_rows (claim_at x.current place).own)

    guard : (k : ℕ) → k < 16 → t ≡ row_task copies place k x.task → store_row_word place cell k (get_or row k 0) y t ≡ Some (stored_part copies place k (get_or row k 0) y)
    guard k low at =
        subst (λ (u : Task). store_row_word place cell k (get_or row k 0) y u ≡ Some (stored_part copies place k (get_or row k 0) y)) (sym at)
        (row_guard copies cell place k (get_or row k 0) y x.task owned low (omega (arith, within, many))
        (λ e. let m = may.copies e in (m.0, m.1 ∙ sym (ap (λ n. n - 1) many), ap (λ (l : List ℕ). get_or l k 0) (m.2 ∙ sym (ap (λ (u : Claim). u.base) claim_is)))) may.starts)

    again : (k value : ℕ) (u : Task) (f : Bool) → record y { task = u; current = stored_row place k value f y.current } ≡ part_with_rows place (set rows k value) (set own_rows k value) f u x
    again k value u f =
        ap (λ (c : Claim). record y { task = u; current = with_claim place (record c { row = set c.row k value; own = with_own_word (word.Row k) value c.own; is_set = f }) y.current }) claim_is
        ∙ ap (λ (c : Attempt). record x { task = u; current = c }) (claim_again x.current place w (record w { row = set rows k value; own = with_own_word (word.Row k) value w.own; is_set = f }))
        ∙ ap (λ (o : Option OwnCell). record x { task = u; current = with_claim place (record (claim_at x.current place) { row = set rows k value; own = o; is_set = f }) x.current })
        (own_row_word k value own_rows (claim_at x.current place).own)

  -- one more word
  module _ (active : is_active x.place ≡ true) (k : ℕ) (low : k < 16) (y : Part) (so : Storing cell row k x y) where
    abbrev value : ℕ
    value = get_or row k 0

    abbrev old : Part
    old = part_with_rows place so.rows so.own_rows so.is_set (row_task copies place k x.task) x

    abbrev pub after : Part
    after = part_with_rows place (set so.rows k value) (set so.own_rows k value) (not copies) (row_task copies place (k + 1) x.task) x

    pub row_stored : store_cell place cell (word.Row k) value y ≡ Some after
    row_stored =
        subst (λ (z : Part). store_cell place cell (word.Row k) value z ≡ Some after) (sym so.is)
        (first_branch (is_active x.place) (store_active_word place cell (word.Row k) value old) _ _ active
        (guard so.rows so.own_rows so.is_set (row_task copies place k x.task) k low refl
        ∙ ap Some
        (again so.rows so.own_rows so.is_set (row_task copies place k x.task) k value (next_task copies place k) (not copies)
        ∙ ap (λ (u : Task). part_with_rows place (set so.rows k value) (set so.own_rows k value) (not copies) u x) (sym (next_is copies place k x.task)))))

    pub row_placed : place_of cell y ≡ place
    row_placed = ap (place_of cell) so.is ∙ placed so.rows so.own_rows so.is_set (row_task copies place k x.task)

    pub row_owned : is_own cell (claim_at y.current place).own ≡ true
    row_owned = subst (λ (z : Part). is_own cell (claim_at z.current place).own ≡ true) (sym so.is) (owned so.rows so.own_rows so.is_set (row_task copies place k x.task))

    pub more_stored : Storing cell row (k + 1) x after
    more_stored = record {
      rows = set so.rows k value;
      own_rows = set so.own_rows k value;
      size = length-set so.rows k value ∙ so.size;
      own_size = length-set so.own_rows k value ∙ so.own_size;
      front = more row so.rows k so.size all low so.front;
      own_front = more row so.own_rows k so.own_size all low so.own_front;
      own_is = so.own_is;
      is_set = not copies;
      set_is = λ _. refl;
      is = refl;
    }

  -- all words
  pub all_stored : (y : Part) → Storing cell row 16 x y → y ≡ part_with_rows place row row (not copies) task.Rest x
  all_stored y so =
      so.is
      ∙ ap (λ (r : List ℕ). part_with_rows place r so.own_rows so.is_set task.Rest x) (full row so.rows so.size all so.front)
      ∙ ap (λ (r : List ℕ). part_with_rows place row r so.is_set task.Rest x) (full row so.own_rows so.own_size all so.own_front)
      ∙ ap (λ (b : Bool). part_with_rows place row row b task.Rest x) (so.set_is (omega arith))

-- ROWS OF A SOUND STATE have 16 words.
module _ (c : Core) (p : ℕ) (sound : Sound c) (k : ℕ) (cell : ℕ) (own : is_own cell (claim_at (c.seats p).current k).own ≡ true) where
  there : k < length (c.seats p).current.writes
  there = own_within cell (c.seats p) k own

  claim_size : length (claim_at (c.seats p).current k).row ≡ 16
  claim_size =
      ((sound.own p).written.rows (c.seats p).current (claim_at (c.seats p).current k)
      (∈-second (c.seats p).over ((c.seats p).current ∷ []) (c.seats p).current (∈-head (c.seats p).current []))
      (∈-at (c.seats p).current.writes k no_claim there)).size

  own_size : length (own_words (claim_at (c.seats p).current k).own).row ≡ 16
  own_size =
      let o = own_of cell (claim_at (c.seats p).current k).own own in
      ap (λ (q : Option OwnCell). length (own_words q).row) o.is ∙ ((sound.own p).written.cells k there o.own o.is).size

-- A VIEW of a sound state, in which a row may be stored
module _ (v : View) (who : ℕ) (x : Part) (has : part_in v who ≡ Some x) (known : IsKnown v) (cell : ℕ) (row : List ℕ) where
  pub may_at : (t : Task) → MayStoreRow cell row x t → MayAt cell (place_of cell x) row x t
  may_at (task.Copies word) may =
      let here : place_of cell x ≡ last_claim x.current = known_place v who x has known cell (last_claim x.current) may.1 in
      record {
        own = known_owns v who x has known cell (last_claim x.current) may.1;
        copies = λ _. (ap (λ n. task.Copies n) may.0, here, may.2 ∙ sym (ap (λ n. (claim_at x.current n).base) here));
        starts = λ e. absurd (cc);
      }
  may_at t may = record { own = may.1; copies = λ e. absurd (copying t may.0 e); starts = λ _. may.0 }
    where
      copying : (u : Task) → may_start u ≡ true → is_copying u ≡ true → ⊥
      copying (task.Copies word) e f = cc
      copying u e f = cc

  -- no word yet
  module _ (owned : Owns cell x) where
    here : known.core.seats who ≡ x
    here = known.is_view who x has

    sizes : (length (claim_at x.current (place_of cell x)).row ≡ 16) × (length (own_words (claim_at x.current (place_of cell x)).own).row ≡ 16)
    sizes =
        subst
        (λ (z : Part). is_own cell (claim_at z.current (place_of cell x)).own ≡ true
        → (length (claim_at z.current (place_of cell x)).row ≡ 16) × (length (own_words (claim_at z.current (place_of cell x)).own).row ≡ 16))
        here
        (λ own. (claim_size known.core who known.sound (place_of cell x) cell own, own_size known.core who known.sound (place_of cell x) cell own))
        owned

    unchanged : x ≡ part_with_rows (place_of cell x) (claim_at x.current (place_of cell x)).row (own_words (claim_at x.current (place_of cell x)).own).row (claim_at x.current (place_of cell x)).is_set x.task x
    unchanged =
        sym
        (ap (λ (o : Option OwnCell). record x { current = with_claim (place_of cell x) (record (claim_at x.current (place_of cell x)) { own = o }) x.current }) (own_row_same (claim_at x.current (place_of cell x)).own)
        ∙ ap (λ (ws : List Claim). record x { current = record x.current { writes = ws } }) (set-get_or x.current.writes (place_of cell x) no_claim))

    pub none_stored : Storing cell row 0 x x
    none_stored = record {
      own_is = owned;
      rows = (claim_at x.current (place_of cell x)).row;
      own_rows = (own_words (claim_at x.current (place_of cell x)).own).row;
      size = sizes.0;
      own_size = sizes.1;
      front = refl;
      own_front = refl;
      is_set = (claim_at x.current (place_of cell x)).is_set;
      set_is = λ some. absurd (omega (arith, some));
      is = unchanged;
    }

-- A LOOP over a row's words
pub record RowLoop (v : View) (who cell k : ℕ) (row : List ℕ) (u : View) : Type 0 where
  pub known : IsKnown u
  pub part : Part
  pub storing : Storing cell row k (part_of v who) part
  pub view_is : u ≡ with_part who part v

module _ (v : View) (who cell : ℕ) (row : List ℕ) (active : is_active (part_of v who).place ≡ true) (known : IsKnown v)
    (may : MayStoreRow cell row (part_of v who) (part_of v who).task) (all : length row ≡ 16) where
  abbrev x : Part
  x = part_of v who

  at : MayAt cell (place_of cell x) row x x.task
  at = may_at v who x (has v who active) known cell row x.task may

  pub row_starts : (u : View) → u ≡ v → RowLoop v who cell 0 row u
  row_starts u same = record {
    known = subst IsKnown (sym same) known;
    part = x;
    storing = none_stored v who x (has v who active) known cell row at.own;
    view_is = same ∙ sym (with_part-same who x v known.in_order (has v who active));
  }

  module _ (u : View) (k : ℕ) (low : k < 16) (loop : RowLoop v who cell k row u) where
    abbrev told_value : ℕ
    told_value = get_or row k 0

    abbrev z : Part
    z = after cell row x at all active k low loop.part loop.storing

    guarded : store_cell (place_of cell x) cell (word.Row k) told_value loop.part ≡ Some z
    guarded = row_stored cell row x at all active k low loop.part loop.storing

    placed_there : place_of cell loop.part ≡ place_of cell x
    placed_there = row_placed cell row x at all active k low loop.part loop.storing

    pub row_held : part_in u who ≡ Some loop.part
    row_held = changed_here v who u loop.part x (has v who active) loop.view_is

    pub row_place : place_of cell (part_of u who) ≡ place_of cell x
    row_place = ap (place_of cell) (part_of-changed v who u loop.part x (has v who active) loop.view_is) ∙ placed_there

    pub row_owns : Owns cell (part_of u who)
    row_owns =
        owns_now v who x (has v who active) u loop.part loop.view_is cell (word.Row k) told_value (place_of cell x) placed_there z guarded (row_owned cell row x at all active k low loop.part loop.storing)

    pub row_ready : Ready u who (own_kind (part_of u who) cell (word.Row k) told_value)
    row_ready = ready_placed v who x (has v who active) u loop.part loop.view_is cell (word.Row k) told_value (place_of cell x) placed_there z guarded

    pub row_goes_on : (t : View) → (found : ℕ) × Told u who (own_kind (part_of u who) cell (word.Row k) told_value) found t
        → RowLoop v who cell (k + 1) row t
    row_goes_on t told = record {
      known = known_after u who (own_kind (part_of u who) cell (word.Row k) told_value) told.0 t told.1;
      part = z;
      storing = more_stored cell row x at all active k low loop.part loop.storing;
      view_is = placed_is v who x (has v who active) u loop.part loop.view_is cell (word.Row k) told_value (place_of cell x) placed_there z guarded told.0 t told.1;
    }

  pub did_store : (u : View) (k : ℕ) → k ≡ 16 → RowLoop v who cell k row u → DidStoreRow v who cell row u
  did_store u k full loop = record {
    view_is = loop.view_is ∙ ap (λ (y : Part). with_part who y v) (all_stored cell row x at all loop.part (subst (λ (n : ℕ). Storing cell row n x loop.part) full loop.storing));
    known = loop.known;
  }
