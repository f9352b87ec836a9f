-- What cells hold after a step agrees with the state after it, wherever that mentions a cell.
use Rattle.std.proofs.Common.{◌≡◌, ◌≢◌, ℕ, ◌+◌, ◌%◌, ◌^◌, ◌<◌, ◌≤◌, ⊎_elim, Bool, true, ltb, List, [], ◌∷◌, ◌++◌, length, set, Option, Some, None, refl, sym, ap, ◌∙◌, subst, arith, length-set, get_or-set_other}
use Rattle.std.specs.Prelude.{if◌then◌else◌}
use Rattle.std.proofs.lemmas.Bool.{and_parts, cases_eq, cases_lt, ltb-true}
use Rattle.std.proofs.lemmas.Grind.{get_or-set_at}
use Rattle.std.proofs.lemmas.List.{get_or_append_left, get_or_push, length_push}
use Rattle.std.proofs.lemmas.Option.{same_Some}
use Rattle.erm_model.specs.Member.{◌∈◌}
use Rattle.erm_machine.specs.declared.limits.TheConstants.{ANNOUNCERS, MOST_CELLS, OBJECT_LIMIT}
use Rattle.erm_machine.specs.declared.attempt.Claim.{Claim}
use Rattle.erm_machine.specs.declared.attempt.OwnCell.{OwnCell}
use Rattle.erm_machine.specs.declared.event.Counter.TheVariants.{Objects, Cells}
use Rattle.erm_machine.specs.declared.event.Kind.{Kind}
use Rattle.erm_machine.specs.declared.event.Kind.TheVariants as kind
use Rattle.erm_machine.specs.declared.part.Part.{Part}
use Rattle.erm_machine.specs.declared.task.Task.{Task}
use Rattle.erm_machine.specs.declared.task.Task.TheVariants as task
use Rattle.erm_machine.specs.declared.version.Cell.{Cell}
use Rattle.erm_machine.specs.declared.version.CellWord.{CellWord}
use Rattle.erm_machine.specs.declared.version.CellWord.TheVariants as word
use Rattle.erm_machine.specs.declared.version.Version.{Version}
use Rattle.erm_machine.specs.declared.version.VersionAt.{VersionAt}
use Rattle.erm_machine.specs.Cells.{own_times}
use Rattle.erm_machine.specs.Core.{Core, Object, Shared, spot_of, word_at, version_at, no_version, with_version, claim_at, no_claim, own_words}
use Rattle.erm_machine.specs.Reading.{swap_link, cut_off, add_counter, with_cell, with_own_word}
use Rattle.erm_machine.specs.Seat.{end_of, is_own, last_claim}
use Rattle.erm_machine.specs.Settling.{adds_version, install_new, release_old, install_claim, install}
use Rattle.erm_machine.specs.Sound.{Sound}
use Rattle.erm_machine.specs.Step.{is_known, part_after, stored, shared_after, with_version_word, with_object, with_counter, added, installed}
use Rattle.erm_machine.specs.Words.{put, set_word, blank_cell}
use Rattle.erm_machine.proofs.Frames.{at_cases, put_same, put_other}
use Rattle.erm_machine.proofs.Guards.{when_then, if_then, either_way}
use Rattle.erm_machine.proofs.Objects.{same_objects}
use Rattle.erm_core_cells.proofs.ChainsFrames.{same_name}
use Rattle.erm_rule.specs.Cells.{ObjectCells, SeatCells, CellsAre, change, cells_after, IsTold}
use Rattle.erm_rule.proofs.Carried.{Carries, OwnsOf, in_both, owns_set, carries, c_add_object}
use Rattle.erm_rule.proofs.CutOff.{was_attached}
use Rattle.erm_rule.proofs.Found.{next}
use Rattle.erm_rule.proofs.Lives.{Meets}
use Rattle.erm_rule.proofs.OnePlace.{IsLive, claim_within, claim_owns, claim_counts, spare_counts, own_drawn, own_unchained, own_apart, own_claim_alone, own_not_spare, live_drawn, live_unowned, live_apart, live_alone}
use Rattle.erm_rule.proofs.Stored.{Stores, own_of, own_within, stores}

-- a change of a word keeps the length of each row
row_set : (w : CellWord) (n : ℕ) (cell : Cell) → length (set_word w n cell).row ≡ length cell.row
row_set (word.Row k) n cell = length-set cell.row k n
row_set _ n cell = refl

rows_change : (cell : ℕ) (w : CellWord) (n : ℕ) (cells : ℕ → Cell) → ((d : ℕ) → length (cells d).row ≡ 16) → (d : ℕ) → length (change cell w n cells d).row ≡ 16
rows_change cell w n cells rows d = at_cases (λ (z : Cell). length z.row ≡ 16) cells cell (set_word w n (cells cell)) d (λ _. row_set w n (cells cell) ∙ rows cell) (λ _. rows d)

-- a seat that doesn't have the cell
seat_untouched : (cells : ℕ → Cell) (cell : ℕ) (w : CellWord) (n : ℕ) (x : Part) → own_times cell x ≡ 0 → SeatCells cells x → SeatCells (change cell w n cells) x
seat_untouched cells cell w n x none h = record {
  owns = λ k own is.
      put_other cells cell (set_word w n (cells cell)) own.cell
      (λ same. some_none (own_times cell x) (claim_counts cell x k (claim_within x k own is) (subst (λ m. is_own m (claim_at x.current k).own ≡ true) same (claim_owns x k own is))) none) ∙ h.owns k own is;
  spares = λ own m.
      put_other cells cell (set_word w n (cells cell)) own.cell (λ same. some_none (own_times cell x) (spare_counts cell x own m same) none) ∙ h.spares own m;
}
  where
    some_none : (k : ℕ) → 1 ≤ k → k ≡ 0 → ⊥
    some_none k h e = omega (arith, h, e)

-- a chain that doesn't have it
object_untouched : (cells : ℕ → Cell) (cell : ℕ) (w : CellWord) (n : ℕ) (o : Object) → ((place : ℕ) → o.cut ≤ place → place < length o.versions → (version_at o place).cell ≢ cell)
    → ObjectCells cells o → ObjectCells (change cell w n cells) o
object_untouched cells cell w n o ne h = record {
  are = λ place attached within. put_other cells cell (set_word w n (cells cell)) (version_at o place).cell (ne place attached within) ∙ h.are place attached within;
}

-- of the seats one has another part, of the objects one is another
seats_next : (seats : ℕ → Part) (p : ℕ) (y : Part) (cells : ℕ → Cell) → (p < ANNOUNCERS → SeatCells cells y) → ((q : ℕ) → q ≢ p → q < ANNOUNCERS → SeatCells cells (seats q))
    → (q : ℕ) → q < ANNOUNCERS → SeatCells cells (put seats p y q)
seats_next seats p y cells own others q below = at_cases (SeatCells cells) seats p y q (λ is. own (subst (λ n. n < ANNOUNCERS) is below)) (λ ne. others q ne below)

objects_next : (f : ℕ → Object) (at : ℕ) (u : Object) (cells : ℕ → Cell) → ObjectCells cells u → ((oid : ℕ) → oid ≢ at → oid < OBJECT_LIMIT → ObjectCells cells (f oid))
    → (oid : ℕ) → oid < OBJECT_LIMIT → ObjectCells cells (put f at u oid)
objects_next f at u cells own others oid known = at_cases (ObjectCells cells) f at u oid (λ _. own) (λ ne. others oid ne known)

-- the version that an install adds has the own cell's words
added_by : (cells : ℕ → Cell) (oid head : ℕ) (x : Part) (e : Option (ℕ × ℕ × ℕ × ℕ)) (y : Part) → SeatCells cells x → install_claim oid head x e ≡ Some y
    → (v : Version) → added head x e ≡ Some v → cells v.cell ≡ v.words
added_by cells oid head x None y h e v is = absurd (cc)
added_by cells oid head x (Some c) y h e v is =
    let new : Version = record { cell = head; words = own_words (claim_at x.current c.1).own } in
    if_then (λ _. cells v.cell ≡ v.words) (adds_version x) (install_new oid head x c) (release_old oid head x c) y e
    (λ adds i.
    when_then (λ _. cells v.cell ≡ v.words) _ _ y i (λ g.
    let o = own_of head (claim_at x.current c.1).own (and_parts _ _ g).1 in
    let same : new ≡ v = same_Some new v (sym (ap (λ (b : Bool). if b then Some new else None) adds) ∙ is) in
    subst (λ (z : Version). cells z.cell ≡ z.words) same (ap cells (sym o.cell_is) ∙ h.owns c.1 o.own o.is ∙ sym (ap own_words o.is))))
    (λ not_adds _.
    let none : added head x (Some c) ≡ None = ap (λ (b : Bool). if b then Some new else None) not_adds in
    absurd (cc))

added_at : (cells : ℕ → Cell) (oid head : ℕ) (x : Part) (t : Task) (y : Part) → SeatCells cells x → install oid head x t ≡ Some y
    → (v : Version) → added head x (end_of t) ≡ Some v → cells v.cell ≡ v.words
added_at cells oid head x task.Refused y h e v is = absurd (cc)
added_at cells oid head x t y h e v is = added_other cells oid head x t y h e v is
  where
    added_other : (cells : ℕ → Cell) (oid head : ℕ) (x : Part) (t : Task) (y : Part) → SeatCells cells x → install_claim oid head x (end_of t) ≡ Some y
        → (v : Version) → added head x (end_of t) ≡ Some v → cells v.cell ≡ v.words
    added_other cells oid head x t y h e v is = added_by cells oid head x (end_of t) y h e v is

installed_cells : (cells : ℕ → Cell) (head : ℕ) (a : Option Version) (o : Object) → ((v : Version) → a ≡ Some v → cells v.cell ≡ v.words) → ObjectCells cells o → ObjectCells cells (installed head a o)
installed_cells cells head None o fits h = record { are = h.are }
installed_cells cells head (Some v) o fits h = record {
  are = λ place attached within.
      let size = length_push o.versions v in
      ⊎_elim
      (λ (old : place < length o.versions). subst (λ (z : Version). cells z.cell ≡ z.words) (sym (get_or_append_left o.versions (v ∷ []) no_version place old)) (h.are place attached old))
      (λ (past : length o.versions ≤ place).
      subst (λ (z : Version). cells z.cell ≡ z.words) (sym (get_or_push o.versions v no_version place (omega (arith, size, within, past)))) (fits v refl))
      (cases_lt place (length o.versions));
}

-- a cut: its cells are spare ones
pub record Cuts (x : Part) (o : Object) (v : VersionAt) (y : Part) : Type 0 where
  pub writes : y.current.writes ≡ x.current.writes
  pub spare : y.spare ≡ x.spare ++ cut_off v.place o

cuts : (found : ℕ) (v : VersionAt) (o : Object) (x : Part) (t : Task) (y : Part) → swap_link found v o x t ≡ Some y → Cuts x o v y
cuts found v o x (task.CutFound version horizon) y e =
    when_then (Cuts x o v) _ _ y e (λ g. record {
      writes = refl;
      spare = ap (λ (u : VersionAt). x.spare ++ cut_off u.place o) (sym (same_name v version (and_parts _ _ g).1));
    })
cuts found v o x _ y e = absurd (cc)

-- the counter of cells is raised: the cell found is the newest claim's, where it lies below the limit
pub record Draws (limit found : ℕ) (x y : Part) : Type 0 where
  pub writes : y.current.writes ≡ (if ltb found limit then (with_cell (record { cell = found; words = blank_cell }) x.current).writes else x.current.writes)
  pub spare : y.spare ≡ x.spare

draws : (limit seat found : ℕ) (x : Part) (t : Task) (y : Part) → add_counter limit seat Cells found x t ≡ Some y → Draws limit found x y
draws limit seat found x task.Pool y e = when_then (Draws limit found x) _ _ y e (λ _. record { writes = refl; spare = refl })
draws limit seat found x _ y e = absurd (cc)

module _ (c : Core) (sound : Sound c) (p : ℕ) (seat : p < ANNOUNCERS) (cells : ℕ → Cell) (are : CellsAre c cells) (y : Part) where
  abbrev x : Part
  x = c.seats p

  abbrev s : Shared
  s = c.shared

  -- neither the map nor an object changes
  calm : (t : Shared) → t.objects ≡ s.objects → t.cells_drawn ≡ s.cells_drawn → Carries x y → CellsAre (record { shared = t; seats = put c.seats p y }) cells
  calm t objects drawn own = record {
    rows = are.rows;
    objects = subst (λ (f : ℕ → Object). (oid : ℕ) → oid < OBJECT_LIMIT → ObjectCells cells (f oid)) (sym objects) are.objects;
    seats = seats_next c.seats p y cells (λ below. own.kept cells (are.seats p below)) (λ q _ below. are.seats q below);
    undrawn = subst (λ (n : ℕ). (cell : ℕ) → n ≤ cell → cells cell ≡ blank_cell) (sym drawn) are.undrawn;
  }

  -- an object changes in its entry, or gains a version
  with_one : (oid : ℕ) (o : Object) → ObjectCells cells o → Carries x y → CellsAre (record { shared = with_object oid o s; seats = put c.seats p y }) cells
  with_one oid o fits own = record {
    rows = are.rows;
    objects = objects_next s.objects oid o cells fits (λ i _ known. are.objects i known);
    seats = seats_next c.seats p y cells (λ below. own.kept cells (are.seats p below)) (λ q _ below. are.seats q below);
    undrawn = are.undrawn;
  }

  entered : (oid : ℕ) (entry : ℕ) → oid < OBJECT_LIMIT → ObjectCells cells (record (s.objects oid) { entry = entry })
  entered oid entry known = record { are = (are.objects oid known).are }

  -- A WORD OF A VERSION
  module _ (v : VersionAt) (live : IsLive s v) (w : CellWord) (n : ℕ) where
    abbrev o : Object
    o = s.objects v.oid

    abbrev after : ℕ → Cell
    after = change v.cell w n cells

    its_words : after (version_at o v.place).cell ≡ set_word w n (version_at o v.place).words
    its_words =
        ap after live.cell ∙ put_same cells v.cell (set_word w n (cells v.cell))
        ∙ ap (set_word w n) (ap cells (sym live.cell) ∙ (are.objects v.oid live.object).are v.place live.attached live.within)

    -- the object, of which more may be cut off
    changed : (cut : ℕ) → o.cut ≤ cut → ObjectCells after (record (with_version o v.place (set_word w n (version_at o v.place).words)) { cut = cut })
    changed cut low = record {
      are = λ place attached within.
          let new : Version = record (version_at o v.place) { words = set_word w n (version_at o v.place).words } in
          let size = length-set o.versions v.place new in
          ⊎_elim
          (λ (same : place ≡ v.place). subst (λ (z : Version). after z.cell ≡ z.words) (sym (get_or-set_at o.versions v.place place new no_version same live.within)) its_words)
          (λ (other : place ≡ v.place → ⊥).
          let old : place < length o.versions = omega (arith, size, within) in
          let there : o.cut ≤ place = omega (arith, low, attached) in
          subst (λ (z : Version). after z.cell ≡ z.words) (sym (get_or-set_other o.versions v.place place new no_version other))
          (put_other cells v.cell (set_word w n (cells v.cell)) (version_at o place).cell (live_alone s c.seats sound.common.cells v live place other there old)
          ∙ (are.objects v.oid live.object).are place there old))
          (cases_eq place v.place);
    }

    others_there : (oid : ℕ) → oid ≢ v.oid → oid < OBJECT_LIMIT → ObjectCells after (s.objects oid)
    others_there oid ne known =
        object_untouched cells v.cell w n (s.objects oid) (λ place attached within. live_apart s c.seats sound.common.cells v live oid place ne known attached within) (are.objects oid known)

    seat_there : (q : ℕ) → q < ANNOUNCERS → SeatCells after (c.seats q)
    seat_there q below = seat_untouched cells v.cell w n (c.seats q) (live_unowned s c.seats sound.common.cells v live q below) (are.seats q below)

    undrawn_there : (cell : ℕ) → s.cells_drawn ≤ cell → after cell ≡ blank_cell
    undrawn_there cell late =
        put_other cells v.cell (set_word w n (cells v.cell)) cell (λ same. let low = (live_drawn s c.seats sound.common.cells v live).0 in omega (arith, low, late, same)) ∙ are.undrawn cell late

    written : Carries x y → CellsAre (record { shared = with_version_word v w n s; seats = put c.seats p y }) after
    written own = record {
      rows = rows_change v.cell w n cells are.rows;
      objects = objects_next s.objects v.oid (with_version o v.place (set_word w n (version_at o v.place).words)) after (changed o.cut (omega arith)) others_there;
      seats = seats_next c.seats p y after (λ below. own.kept after (seat_there p below)) (λ q _ below. seat_there q below);
      undrawn = undrawn_there;
    }

    -- a version's cell that was cut off
    cut_there : (own : OwnCell) → own ∈ cut_off v.place o → after own.cell ≡ own.words
    cut_there own m =
        let was = was_attached o v.place own m in
        ap after (sym was.cell)
        ∙ put_other cells v.cell (set_word w n (cells v.cell)) (version_at o was.at).cell
        (live_alone s c.seats sound.common.cells v live was.at (λ same. let low = was.below in omega (arith, low, same)) was.attached was.within)
        ∙ (are.objects v.oid live.object).are was.at was.attached was.within ∙ was.words

    cut_next : Cuts x o v y → CellsAre (record {
      shared = with_object v.oid (record (with_version o v.place (set_word w n (version_at o v.place).words)) { cut = v.place }) s;
      seats = put c.seats p y;
    }) after
    cut_next cut = record {
      rows = rows_change v.cell w n cells are.rows;
      objects = objects_next s.objects v.oid (record (with_version o v.place (set_word w n (version_at o v.place).words)) { cut = v.place }) after (changed v.place live.attached) others_there;
      seats = seats_next c.seats p y after
          (λ below. record {
            owns = subst (λ (ws : List Claim). OwnsOf after ws) (sym cut.writes) (seat_there p below).owns;
            spares = λ own m.
                in_both x.spare (cut_off v.place o) (λ (z : OwnCell). after z.cell ≡ z.words) (seat_there p below).spares cut_there own (subst (λ (ss : List OwnCell). own ∈ ss) cut.spare m);
          })
          (λ q _ below. seat_there q below);
      undrawn = undrawn_there;
    }

  -- A WORD OF AN OWN CELL
  module _ (place cell : ℕ) (w : CellWord) (value : ℕ) (st : Stores place cell w value x y) where
    abbrev stored_map : ℕ → Cell
    stored_map = change cell w value cells

    mine : 1 ≤ own_times cell x
    mine = claim_counts cell x place (own_within cell x place st.own) st.own

    elsewhere : (d : ℕ) → d ≢ cell → stored_map d ≡ cells d
    elsewhere d ne = put_other cells cell (set_word w value (cells cell)) d ne

    stored_here : (own : OwnCell) → st.claim.own ≡ Some own → stored_map own.cell ≡ own.words
    stored_here own is =
        let o = own_of cell (claim_at x.current place).own st.own in
        let new : OwnCell = record o.own { words = set_word w value o.own.words } in
        let same : new ≡ own = same_Some new own (sym (st.stored ∙ ap (with_own_word w value) o.is) ∙ is) in
        subst (λ (z : OwnCell). stored_map z.cell ≡ z.words) same
        (ap stored_map o.cell_is ∙ put_same cells cell (set_word w value (cells cell)) ∙ ap (set_word w value) (ap cells (sym o.cell_is) ∙ (are.seats p seat).owns place o.own o.is))

    stored_owns : OwnsOf stored_map (set x.current.writes place st.claim)
    stored_owns k own is =
        ⊎_elim
        (λ (same : k ≡ place).
        stored_here own (subst (λ (z : Claim). z.own ≡ Some own) (get_or-set_at x.current.writes place k st.claim no_claim same (own_within cell x place st.own)) is))
        (λ (other : k ≡ place → ⊥).
        let was : (claim_at x.current k).own ≡ Some own = subst (λ (z : Claim). z.own ≡ Some own) (get_or-set_other x.current.writes place k st.claim no_claim other) is in
        elsewhere own.cell (λ same. other
        (own_claim_alone s c.seats sound.common.cells cell p seat mine k place (claim_within x k own was) (own_within cell x place st.own)
        (subst (λ (m : ℕ). is_own m (claim_at x.current k).own ≡ true) same (claim_owns x k own was)) st.own))
        ∙ (are.seats p seat).owns k own was)
        (cases_eq k place)

    own_stored : CellsAre (record { shared = s; seats = put c.seats p y }) stored_map
    own_stored = record {
      rows = rows_change cell w value cells are.rows;
      objects = λ oid known.
          object_untouched cells cell w value (s.objects oid) (λ at attached within. own_unchained s c.seats sound.common.cells cell p seat mine oid at known attached within) (are.objects oid known);
      seats = seats_next c.seats p y stored_map
          (λ _. record {
            owns = subst (λ (ws : List Claim). OwnsOf stored_map ws) (sym st.writes) stored_owns;
            spares = λ own m.
                let was : own ∈ x.spare = subst (λ (ss : List OwnCell). own ∈ ss) st.spare m in
                elsewhere own.cell (own_not_spare s c.seats sound.common.cells cell p seat mine place own (own_within cell x place st.own) st.own was) ∙ (are.seats p seat).spares own was;
          })
          (λ q ne below. seat_untouched cells cell w value (c.seats q) (own_apart s c.seats sound.common.cells cell p seat mine q ne below) (are.seats q below));
      undrawn = λ d late. elsewhere d (λ same. let low = (own_drawn s c.seats sound.common.cells cell p seat mine).0 in omega (arith, low, late, same)) ∙ are.undrawn d late;
    }

  -- THE COUNTER OF CELLS
  no_wrap : (n : ℕ) → n ≤ MOST_CELLS + ANNOUNCERS → (n + 1) % 2 ^ 64 ≡ n + 1
  no_wrap n few = omega (arith, few)

  few_drawn : s.cells_drawn ≤ MOST_CELLS + ANNOUNCERS
  few_drawn = low _ _ _ sound.common.counters.cells sound.common.counters.limit
    where
      low : (n m limit : ℕ) → n + m ≤ limit + ANNOUNCERS → limit ≤ MOST_CELLS → n ≤ MOST_CELLS + ANNOUNCERS
      low n m limit all most = omega (arith, all, most)

  drawn_owns : Draws s.cell_limit s.cells_drawn x y → OwnsOf cells y.current.writes
  drawn_owns d =
      let new : OwnCell = record { cell = s.cells_drawn; words = blank_cell } in
      subst (λ (ws : List Claim). OwnsOf cells ws) (sym d.writes)
      (either_way (OwnsOf cells) (ltb s.cells_drawn s.cell_limit) (with_cell new x.current).writes x.current.writes
      (λ _. owns_set cells x.current.writes (last_claim x.current) (record (claim_at x.current (last_claim x.current)) { own = Some new })
      (λ own is. subst (λ (z : OwnCell). cells z.cell ≡ z.words) (same_Some new own is) (are.undrawn s.cells_drawn (omega arith))) (are.seats p seat).owns)
      (λ _. (are.seats p seat).owns))

  drawn_next : Draws s.cell_limit s.cells_drawn x y → CellsAre (record { shared = with_counter Cells ((s.cells_drawn + 1) % 2 ^ 64) s; seats = put c.seats p y }) cells
  drawn_next d = record {
    rows = are.rows;
    objects = are.objects;
    seats = seats_next c.seats p y cells
        (λ _. record { owns = drawn_owns d; spares = λ own m. (are.seats p seat).spares own (subst (λ (ss : List OwnCell). own ∈ ss) d.spare m) })
        (λ q _ below. are.seats q below);
    undrawn = λ cell late. are.undrawn cell (later s.cells_drawn cell (no_wrap s.cells_drawn few_drawn) late);
  }
    where
      later : (n cell : ℕ) → (n + 1) % 2 ^ 64 ≡ n + 1 → (n + 1) % 2 ^ 64 ≤ cell → n ≤ cell
      later n cell e h = omega (arith, e, h)

  -- the word that a step of this kind meets
  abbrev found : Kind → ℕ
  found k = word_at c (spot_of p k)

  -- ALL KINDS
  pub cells_next : (k : Kind) → IsTold k → is_known k ≡ true → Meets c p k → part_after p k (found k) s x ≡ Some y →
      CellsAre (next c p k y) (cells_after k (stored p k (found k)) cells)
  cells_next (kind.Split other) told known live e = absurd told
  cells_next (kind.Join other) told known live e = absurd told
  cells_next (kind.Claim oid seen number) told known live e = with_one oid _ (entered oid _ (ltb-true oid OBJECT_LIMIT known)) (carries p (kind.Claim oid seen number) (found (kind.Claim oid seen number)) s x y tt e)
  cells_next (kind.Install oid head) told known live e =
      with_one oid (installed head (added head x (end_of x.task)) (s.objects oid))
      (installed_cells cells head (added head x (end_of x.task)) (s.objects oid) (added_at cells oid head x x.task y (are.seats p seat) e) (are.objects oid (ltb-true oid OBJECT_LIMIT known)))
      (carries p (kind.Install oid head) (found (kind.Install oid head)) s x y tt e)
  cells_next (kind.StoreCell place cell w value) told known live e = own_stored place cell w value (stores place cell w value x y e)
  cells_next (kind.AddCounter Objects) told known live e = calm (with_counter Objects _ s) refl refl (c_add_object s.cell_limit p (found (kind.AddCounter Objects)) x x.task y e)
  cells_next (kind.AddCounter Cells) told known live e = drawn_next (draws s.cell_limit p s.cells_drawn x x.task y e)
  cells_next (kind.SetReader v) told known live e = written v live word.Readers _ (carries p (kind.SetReader v) (found (kind.SetReader v)) s x y tt e)
  cells_next (kind.ClearReader v) told known live e = written v live word.Readers _ (carries p (kind.ClearReader v) (found (kind.ClearReader v)) s x y tt e)
  cells_next (kind.RaiseReader v value) told known live e = written v live word.ReaderStamp _ (carries p (kind.RaiseReader v value) (found (kind.RaiseReader v value)) s x y tt e)
  cells_next (kind.StoreSucc v value) told known live e = written v live word.OverwriterSucc value (carries p (kind.StoreSucc v value) (found (kind.StoreSucc v value)) s x y tt e)
  cells_next (kind.StoreOverwriter v value) told known live e = written v live word.Overwriter value (carries p (kind.StoreOverwriter v value) (found (kind.StoreOverwriter v value)) s x y tt e)
  cells_next (kind.SwapLink v) told known live e = cut_next v live word.Link 0 (cuts (found (kind.SwapLink v)) v (s.objects v.oid) x x.task y e)
  cells_next k told known live e = calm (shared_after p k (found k) x s) (same_objects p k (found k) x s tt) refl (carries p k (found k) s x y tt e)
