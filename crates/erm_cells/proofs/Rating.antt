-- Drawing a cell, and the load of the reader stamp that gives it to the claim.
use Rattle.std.proofs.Common.{◌≡◌, ⊎_elim, ℕ, ◌-◌, ◌<◌, ◌≤◌, true, [], ◌∷◌, ◌++◌, ◌&&◌, List, length, map, get_or, Some, Option, refl, sym, ap, ◌∙◌, subst, arith, eqb, ltb}
use Rattle.std.specs.Prelude.{IfErr, IfOk, Result, Ok, Err}
use Rattle.std.proofs.lemmas.Bool.{eq-eqb, lt-ltb, ne_eqb}
use Rattle.std.proofs.lemmas.List.{length-append, length-map}
use Rattle.erm_model.specs.declared.limits.TheConstants.{TABLE_CELLS}
use Rattle.erm_model.specs.Member.{◌∈◌}
use Rattle.erm_model.specs.RowTransaction.{Law}
use Rattle.erm_model.proofs.Members.{∈-at}
use Rattle.erm_machine.specs.declared.attempt.OwnCell.{OwnCell}
use Rattle.erm_machine.specs.declared.event.Counter.TheVariants.{Cells}
use Rattle.erm_machine.specs.declared.event.Kind.{Kind}
use Rattle.erm_machine.specs.declared.event.Kind.TheVariants as kind
use Rattle.erm_machine.specs.declared.limits.TheConstants.{ANNOUNCERS, OBJECT_LIMIT}
use Rattle.erm_machine.specs.declared.part.Part.{Part}
use Rattle.erm_machine.specs.declared.task.Task.{Task}
use Rattle.erm_machine.specs.declared.task.Task.TheVariants as task
use Rattle.erm_machine.specs.declared.version.CellWord.TheVariants as word
use Rattle.erm_machine.specs.Cells.{WantsCell, own_times}
use Rattle.erm_machine.specs.Decided.{MarkInHand}
use Rattle.erm_machine.specs.Core.{Core, Shared, spot_of, word_at}
use Rattle.erm_machine.specs.Reading.{rated_claim, with_spare, load_active_stamp}
use Rattle.erm_machine.specs.Seat.{is_active, is_own, last_claim, same_version, with_task}
use Rattle.erm_machine.specs.Sound.{Sound}
use Rattle.erm_machine.specs.Step.{part_after}
use Rattle.erm_machine.specs.Words.{blank_cell}
use Rattle.erm_rule.specs.declared.view.Book.{Book}
use Rattle.erm_rule.specs.declared.view.View.{View}
use Rattle.erm_rule.specs.Books.{WasSeen}
use Rattle.erm_rule.proofs.Courses.{last_of, seen_last}
use Rattle.erm_rule.specs.Hands.{IsKnown}
use Rattle.erm_rule.specs.Steps.{Ready, Told}
use Rattle.erm_rule.specs.Views.{part_in, part_of, with_part}
use Rattle.erm_rule.proofs.Numbered.{known_after}
use Rattle.erm_rule.proofs.OnePlace.{own_drawn, spare_counts}
use Rattle.erm_rule.proofs.Parts.{with_part-same}
use Rattle.erm_rule.proofs.Telling.{part_of-changed}
use Rattle.erm_rule.specs.Went.{Took}
use Rattle.erm_rule.proofs.Wents.{took_goes}
use Rattle.erm_cells.specs.Hands.{newest_claimed, rated_kind}
use Rattle.erm_cells.specs.Spare.{DidCount, DidDraw, DidRate, DidRefuse, HasDrawn, MayRate, NewestOwns, SpareIs, drawn_part, part_drawn, rated_part, spare_cells, with_drawn}
use Rattle.erm_cells.specs.Took.{TookNoCount}
use Rattle.erm_cells.proofs.Claimed.{newest_owns, seat_below}
use Rattle.erm_cells.proofs.Heads.{has, same_self}
use Rattle.erm_cells.proofs.Spares.{front_is, last_is, some, spares_fit}
use Rattle.erm_cells.proofs.Views.{when_true, both, first_branch, choose, refuse, ready_at, told_is}

-- a cell that was never used, for a list without a last
abbrev blank : OwnCell
blank = record { cell = 0; words = blank_cell }

owns : (o : Option OwnCell) (own : OwnCell) (cell : ℕ) → o ≡ Some own → own.cell ≡ cell → is_own cell o ≡ true
owns o own cell is same = subst (λ (q : Option OwnCell). is_own cell q ≡ true) (sym is) (eq-eqb own.cell cell same)

-- a seat whose list is empty has no spare cell
pub bare_list : (cells : List ℕ) (x : Part) → SpareIs cells x → cells ≡ [] → x.spare ≡ []
bare_list cells x is none = empty x.spare (let e = ap (λ (l : List ℕ). length l) (sym is ∙ none) in let size = length-map x.spare (λ (own : OwnCell). own.cell) in omega (arith, e, size))
  where
    empty : (xs : List OwnCell) → length xs ≡ 0 → xs ≡ []
    empty [] e = refl
    empty (y ∷ ys) e = absurd (omega (arith, e))

pub err_then : {X Y : Type 0} {P Q : Y → Type 0} (r : Result X Y) → IfErr r P → ((e : Y) → P e → Q e) → IfErr r Q
err_then (Ok z) h f = tt
err_then (Err e) h f = f e h

pub ok_then : {X Y : Type 0} {P Q : X → Type 0} (r : Result X Y) → IfOk r P → ((z : X) → P z → Q z) → IfOk r Q
ok_then (Ok z) h f = f z h
ok_then (Err e) h f = tt

-- the newest claim is there where its cell is to be drawn, or was just drawn
claims_there : (c : Core) (p : ℕ) (t : Task) → Sound c → (c.seats p).task ≡ t → MayRate (c.seats p) t → 0 < length (c.seats p).current.writes
claims_there c p task.Draws sound at may = (subst (WantsCell (c.seats p)) at (sound.own p).cells.wants).0
claims_there c p task.Fetched sound at may = (subst (MarkInHand c.shared (c.seats p).current) at (sound.own p).decided.in_hand).0
claims_there c p _ sound at may = absurd may

wants_there : (c : Core) (p : ℕ) → Sound c → (c.seats p).task ≡ task.Draws → 0 < length (c.seats p).current.writes
wants_there c p sound at = (subst (WantsCell (c.seats p)) at (sound.own p).cells.wants).0

rate_guard : (stamp : ℕ) (x : Part) (t : Task) → MayRate x t → load_active_stamp stamp (newest_claimed x) word.ReaderStamp x t ≡ Some (rated_claim stamp (with_drawn x t))
rate_guard stamp x task.Draws may =
    when_true (same_version (newest_claimed x) (newest_claimed x) && ltb 0 (length x.spare)) (rated_claim stamp (with_spare x))
    (both _ _ (same_self (newest_claimed x)) (lt-ltb 0 (length x.spare) may))
rate_guard stamp x task.Fetched may = when_true _ (rated_claim stamp x) (same_self (newest_claimed x))
rate_guard stamp x _ may = absurd may

-- what was drawn is the newest claim's once the stamp is loaded
rated_left : (stamp : ℕ) (x : Part) (t : Task) (cells : List ℕ) (cell : ℕ) → 0 < length x.current.writes → HasDrawn cells cell x t
    → SpareIs cells (rated_claim stamp (with_drawn x t)) × NewestOwns cell (rated_claim stamp (with_drawn x t))
rated_left stamp x task.Draws cells cell there drawn =
    let last : OwnCell = get_or x.spare (length x.spare - 1) blank in (
      front_is (λ (own : OwnCell). own.cell) x.spare blank cells cell drawn,
      owns _ last cell (newest_owns x.current last there) (last_is (λ (own : OwnCell). own.cell) x.spare blank cells cell drawn),
    )
rated_left stamp x task.Fetched cells cell there drawn = drawn
rated_left stamp x _ cells cell there drawn = absurd drawn

-- a cell that was drawn may be rated
pub drawn_may : (x : Part) (t : Task) (cells : List ℕ) (cell : ℕ) → HasDrawn cells cell x t → MayRate x t
drawn_may x task.Draws cells cell drawn = some (λ (own : OwnCell). own.cell) x.spare blank cells cell drawn
drawn_may x task.Fetched cells cell drawn = tt
drawn_may x _ cells cell drawn = absurd drawn

module _ (v : View) (who : ℕ) (active : is_active (part_of v who).place ≡ true) (known : IsKnown v) where
  abbrev x : Part
  x = part_of v who

  is : known.core.seats who ≡ x
  is = known.is_view who x (has v who active)

  below : who < ANNOUNCERS
  below = seat_below v who x known.in_order (has v who active)

  -- DRAW
  module _ (draws : (part_of v who).task ≡ task.Draws) (cells : List ℕ) where
    there : 0 < length x.current.writes
    there = subst (λ (z : Part). z.task ≡ task.Draws → 0 < length z.current.writes) is (wants_there known.core who known.sound) draws

    pub draw_spare : (cell : ℕ) → cells ++ cell ∷ [] ≡ spare_cells x → DidDraw v who cells cell v
    draw_spare cell left = record {
      view_is = sym (ap (λ (z : Part). with_part who z v) kept ∙ with_part-same who x v known.in_order (has v who active));
      drawn = subst (λ (t : Task). HasDrawn cells cell x t) (sym draws) left;
      small = subst (λ n. n < TABLE_CELLS) (last_is (λ (own : OwnCell). own.cell) x.spare blank cells cell left) few;
      known = known;
    }
      where
        many : 0 < length x.spare
        many = some (λ (own : OwnCell). own.cell) x.spare blank cells cell left

        kept : part_drawn cell x ≡ x
        kept = refuse (eqb (length x.spare) 0) (drawn_part cell x) x (ne_eqb (length x.spare) 0 (λ e. omega (arith, e, many)))

        last : OwnCell
        last = get_or x.spare (length x.spare - 1) blank

        few : last.cell < TABLE_CELLS
        few =
            let among : last ∈ x.spare = ∈-at x.spare (length x.spare - 1) blank (omega (arith, many)) in
            let counts : 1 ≤ own_times last.cell x = spare_counts last.cell x last among refl in
            let drawn = own_drawn known.core.shared known.core.seats known.sound.common.cells last.cell who below (subst (λ (z : Part). 1 ≤ own_times last.cell z) (sym is) counts) in
            subst (λ n. last.cell < n) known.limit drawn.1

    pub draw_counted : (cell : ℕ) (w : View) → (part_of v who).spare ≡ [] → cells ≡ [] → DidCount v who cell w → DidDraw v who cells cell w
    draw_counted cell w bare none did = record {
      view_is = did.view_is ∙ ap (λ (z : Part). with_part who z v) (sym taken);
      drawn = subst (λ (z : Part). HasDrawn cells cell z z.task) (sym now) (none ∙ sym (ap (map (λ (own : OwnCell). own.cell)) bare), owns _ new cell (newest_owns x.current new there) refl);
      small = did.small;
      known = did.known;
    }
      where
        new : OwnCell
        new = record { cell = cell; words = blank_cell }

        taken : part_drawn cell x ≡ drawn_part cell x
        taken = choose (eqb (length x.spare) 0) (drawn_part cell x) x (eq-eqb (length x.spare) 0 (ap (λ (l : List OwnCell). length l) bare))

        now : part_of w who ≡ drawn_part cell x
        now = part_of-changed v who w (drawn_part cell x) x (has v who active) did.view_is

    pub draw_refused : (seen : ℕ) (w : View) → (part_of v who).spare ≡ [] → cells ≡ [] → DidRefuse v who seen w → DidRefuse v who seen w × SpareIs cells (part_of w who)
    draw_refused seen w bare none did =
        let now : part_of w who ≡ with_task task.Refused x = part_of-changed v who w (with_task task.Refused x) x (has v who active) did.view_is in
        (did, subst (λ (z : Part). SpareIs cells z) (sym now) (none ∙ sym (ap (map (λ (own : OwnCell). own.cell)) bare)))

  -- RATE
  module _ (may : MayRate (part_of v who) (part_of v who).task) where
    claimed : 0 < length x.current.writes
    claimed = subst (λ (z : Part). MayRate z z.task → 0 < length z.current.writes) is (claims_there known.core who _ known.sound refl) may

    pub object : (newest_claimed x).oid < OBJECT_LIMIT
    object = subst (λ (z : Part). 0 < length z.current.writes → (newest_claimed z).oid < OBJECT_LIMIT) is (λ some. (known.sound.own who).claims.objects (last_claim (known.core.seats who).current) (omega (arith, some))) claimed

    after_rate : (stamp : ℕ) (s : Shared) → part_after who (rated_kind x) stamp s x ≡ Some (rated_part stamp x)
    after_rate stamp s = first_branch (is_active x.place) (load_active_stamp stamp (newest_claimed x) word.ReaderStamp x x.task) _ _ active (rate_guard stamp x x.task may)

    pub ready_rate : Ready v who (rated_kind x)
    ready_rate = ready_at v who (rated_kind x) x (has v who active) (λ c. rated_part (word_at c (spot_of who (rated_kind x))) x) (λ c sound. after_rate (word_at c (spot_of who (rated_kind x))) c.shared)

    pub did_rate : (stamp : ℕ) (w : View) → Told v who (rated_kind x) stamp w → DidRate v who stamp w
    did_rate stamp w told =
        let changed : w ≡ with_part who (rated_part stamp x) v = told_is v who (rated_kind x) stamp w x (rated_part stamp x) (has v who active) told (after_rate stamp told.before.shared) in
        let now : part_of w who ≡ rated_part stamp x = part_of-changed v who w (rated_part stamp x) x (has v who active) changed in
        record {
          view_is = changed;
          known = known_after v who (rated_kind x) stamp w told;
          left = λ cells cell drawn. subst (λ (z : Part). SpareIs cells z × NewestOwns cell z) (sym now) (rated_left stamp x x.task cells cell claimed drawn);
        }

-- GIVE BACK
pub room : (v : View) (who : ℕ) (x : Part) (cells : List ℕ) (cell : ℕ) → IsKnown v → part_in v who ≡ Some x → cells ++ cell ∷ [] ≡ spare_cells x → length cells < TABLE_CELLS
room v who x cells cell known here left =
    let fits = spares_fit known.core who known.sound known.limit (seat_below v who x known.in_order here) in
    let same = ap (λ (z : Part). length z.spare) (known.is_view who x here) in
    let all = ap (λ (l : List ℕ). length l) left in
    let more = length-append cells (cell ∷ []) in
    let size = length-map x.spare (λ (own : OwnCell). own.cell) in
    omega (arith, fits, same, all, more, size)

-- a list with one at its end isn't empty
pub not_bare : (cells : List ℕ) (cell : ℕ) → cells ++ cell ∷ [] ≡ [] → ⊥
not_bare [] cell e = cc
not_bare (x ∷ xs) cell e = cc

-- the count that was found was met
pub count_seen : (law : Law) (b : Book) (who seen : ℕ) (e : Book) → TookNoCount law who seen b e → WasSeen b (λ s. s.shared.cells_drawn ≡ seen) e
count_seen law b who seen e took =
    ⊎_elim
    (λ (t : Took law who ((kind.LoadCounter Cells, seen) ∷ []) b e). last (kind.LoadCounter Cells) [] (λ c met. met) t)
    (λ (t : (first : ℕ) × Took law who ((kind.AddCounter Cells, seen) ∷ (kind.LoadCounter Cells, first) ∷ []) b e). last (kind.AddCounter Cells) ((kind.LoadCounter Cells, t.0) ∷ []) (λ c met. met) t.1)
    took
  where
    last : (k : Kind) (steps : List (Kind × ℕ)) → ((c : Core) → word_at c (spot_of who k) ≡ seen → c.shared.cells_drawn ≡ seen) → Took law who ((k, seen) ∷ steps) b e → WasSeen b (λ s. s.shared.cells_drawn ≡ seen) e
    last k steps so t = seen_last b (λ s. s.shared.cells_drawn ≡ seen) who k seen e (last_of law b t.0 who k seen e (took_goes law who steps b t.0 t.1) t.2) so
