-- The newest claim gets a cell, or is given up.
use Rattle.std.proofs.Common.{◌≡◌, ℕ, ◌-◌, ◌<◌, Bool, true, false, List, length, take, get_or, set, Some, Option, refl, sym, ap, ◌∙◌, subst, eqb, eqb-true, arith}
use Rattle.std.specs.Prelude.{if◌then◌else◌}
use Rattle.std.proofs.lemmas.List.{set-set}
use Rattle.erm_machine.specs.declared.attempt.Attempt.{Attempt}
use Rattle.erm_machine.specs.declared.attempt.Claim.{Claim}
use Rattle.erm_machine.specs.declared.attempt.OwnCell.{OwnCell}
use Rattle.erm_machine.specs.declared.part.Part.{Part}
use Rattle.erm_machine.specs.declared.task.Task.{Task}
use Rattle.erm_machine.specs.declared.task.Task.TheVariants as task
use Rattle.erm_machine.specs.Cells.{WantsCell}
use Rattle.erm_machine.specs.Core.{Core, claim_at}
use Rattle.erm_machine.specs.Reading.{rated_claim, with_cell}
use Rattle.erm_machine.specs.Seat.{is_active, is_own, last_claim, with_pred, with_task}
use Rattle.erm_machine.specs.Sound.{Sound}
use Rattle.erm_machine.specs.Words.{blank_cell}
use Rattle.erm_rule.specs.declared.view.View.{View}
use Rattle.erm_rule.specs.Hands.{IsKnown}
use Rattle.erm_rule.specs.Views.{part_in, part_of, with_part}
use Rattle.erm_rule.proofs.Parts.{with_part-again}
use Rattle.erm_rule.proofs.Telling.{changed_here, part_of-changed}
use Rattle.erm_cells.specs.Hands.{newest_claimed}
use Rattle.erm_cells.specs.Placed.{place_of}
use Rattle.erm_cells.specs.Rows.{DidCopyRow, newest_base, part_with_rows, with_own_row}
use Rattle.erm_cells.specs.Spare.{DidDraw, DidRate, DidRefuse, drawn_part, MayRate, NewestOwns, part_drawn, rated_part, SpareIs, with_drawn}
use Rattle.erm_cells.proofs.Claimed.{claim_set, claims_set, newest_owns}
use Rattle.erm_cells.proofs.Heads.{has}
use Rattle.erm_cells.proofs.Placing.{known_place}
use Rattle.erm_cells.proofs.Rating.{drawn_may}
use Rattle.erm_entries.specs.Ends.{DidUnclaim, IsRefused, unclaimed_part}
use Rattle.erm_rows.specs.Claims.{filled_claim, filled_part, DidFill, DidFindNoCell}

-- a cell that was never used, for a list without a last
abbrev blank : OwnCell
blank = record { cell = 0; words = blank_cell }

-- the part of a seat whose newest claim has this cell, before its row is copied
abbrev given_part : OwnCell → List OwnCell → ℕ → Part → Part
given_part own spare readers x = record x { task = task.Copies 0; spare = spare; current = with_pred readers (with_cell own x.current) }

record IsGiven (readers : ℕ) (x z : Part) : Type 0 where
  pub own : OwnCell
  pub spare : List OwnCell
  pub is : z ≡ given_part own spare readers x

given : (b : Bool) (cell readers : ℕ) (x : Part) → x.task ≡ task.Draws → IsGiven readers x (rated_part readers (if b then drawn_part cell x else x))
given true cell readers x draws = record { own = record { cell = cell; words = blank_cell }; spare = x.spare; is = refl }
given false cell readers x draws = record {
  own = get_or x.spare (length x.spare - 1) blank;
  spare = take (length x.spare - 1) x.spare;
  is = ap (λ (t : Task). rated_claim readers (with_drawn x t)) draws;
}

drawn_active : (b : Bool) (cell : ℕ) (x : Part) → is_active x.place ≡ true → is_active (if b then drawn_part cell x else x).place ≡ true
drawn_active true cell x e = e
drawn_active false cell x e = e

-- the newest claim once it has a cell
given_place : (t : Attempt) (own : OwnCell) → last_claim (with_cell own t) ≡ last_claim t
given_place t own = ap (λ (n : ℕ). n - 1) (claims_set t (last_claim t) (record (claim_at t (last_claim t)) { own = Some own }))

given_claim : (t : Attempt) (own : OwnCell) → 0 < length t.writes → claim_at (with_cell own t) (last_claim t) ≡ record (claim_at t (last_claim t)) { own = Some own }
given_claim t own some = claim_set t (last_claim t) (record (claim_at t (last_claim t)) { own = Some own }) (omega (arith, some))

newest_given : (t : Attempt) (own : OwnCell) → 0 < length t.writes → claim_at (with_cell own t) (last_claim (with_cell own t)) ≡ record (claim_at t (last_claim t)) { own = Some own }
newest_given t own some = ap (λ (n : ℕ). claim_at (with_cell own t) n) (given_place t own) ∙ given_claim t own some

newest_drawn : (b : Bool) (cell base : ℕ) (x : Part) → 0 < length x.current.writes → (newest_claimed x).cell ≡ base → (newest_claimed (if b then drawn_part cell x else x)).cell ≡ base
newest_drawn true cell base x some is = ap (λ (w : Claim). w.version.cell) (newest_given x.current (record { cell = cell; words = blank_cell }) some) ∙ is
newest_drawn false cell base x some is = is

wants_there : (c : Core) (p : ℕ) → Sound c → (c.seats p).task ≡ task.Draws → 0 < length (c.seats p).current.writes
wants_there c p sound at = (subst (WantsCell (c.seats p)) at (sound.own p).cells.wants).0

-- a row copied into the claim at a place
abbrev copied : ℕ → Claim → List ℕ → Part → Part
copied place w row y = record y {
  task = task.Rest;
  current = record y.current { writes = set y.current.writes place (record w { row = row; own = with_own_row row w.own; is_set = false }) };
}

module _ (v : View) (who : ℕ) (active : is_active (part_of v who).place ≡ true) (known : IsKnown v) (draws : (part_of v who).task ≡ task.Draws) (oid base : ℕ)
    (oid_is : (newest_claimed (part_of v who)).oid ≡ oid) (base_is : (newest_claimed (part_of v who)).cell ≡ base) where
  abbrev x : Part
  x = part_of v who

  there : 0 < length x.current.writes
  there = subst (λ (z : Part). z.task ≡ task.Draws → 0 < length z.current.writes) (known.is_view who x (has v who active)) (wants_there known.core who known.sound) draws

  -- there was no cell
  module _ (seen : ℕ) (a : View) (none : DidRefuse v who seen a) where
    abbrev r : Part
    r = with_task task.Refused x

    r_is : part_of a who ≡ r
    r_is = part_of-changed v who a r x (has v who active) none.view_is

    pub active_refused : is_active (part_of a who).place ≡ true
    active_refused = ap (λ (z : Part). is_active z.place) r_is ∙ active

    pub is_refused : IsRefused (part_of a who) oid base
    is_refused = subst (λ (z : Part). IsRefused z oid base) (sym r_is) (record { task_is = refl; oid_is = oid_is; cell_is = base_is })

    module _ (w : View) (gave : DidUnclaim a who oid base w) where
      gave_up : w ≡ with_part who (unclaimed_part x) v
      gave_up = gave.view_is
          ∙ ap (λ (z : Part). with_part who (unclaimed_part z) a) r_is
          ∙ ap (λ (t : View). with_part who (unclaimed_part x) t) none.view_is
          ∙ with_part-again who r (unclaimed_part x) v

      pub found_no_cell : DidFindNoCell v who oid base seen w
      found_no_cell = record { refused = a; none = none; view_is = gave_up; known = gave.known; is_head = gave.is_head }

      pub spare_left : (cells : List ℕ) → SpareIs cells (part_of a who) → SpareIs cells (part_of w who)
      spare_left cells is =
          subst (λ (z : Part). SpareIs cells z) (sym (part_of-changed v who w (unclaimed_part x) x (has v who active) gave_up)) (subst (λ (z : Part). SpareIs cells z) r_is is)

  -- a cell was drawn
  module _ (cells : List ℕ) (cell : ℕ) (a : View) (drew : DidDraw v who cells cell a) where
    a_is : part_of a who ≡ part_drawn cell x
    a_is = part_of-changed v who a (part_drawn cell x) x (has v who active) drew.view_is

    pub active_drawn : is_active (part_of a who).place ≡ true
    active_drawn = ap (λ (z : Part). is_active z.place) a_is ∙ drawn_active (eqb (length x.spare) 0) cell x active

    pub base_drawn : (newest_claimed (part_of a who)).cell ≡ base
    base_drawn = ap (λ (z : Part). (newest_claimed z).cell) a_is ∙ newest_drawn (eqb (length x.spare) 0) cell base x there base_is

    pub may_rate : MayRate (part_of a who) (part_of a who).task
    may_rate = drawn_may (part_of a who) (part_of a who).task cells cell drew.drawn

    -- its reader stamp was loaded
    module _ (readers : ℕ) (u : View) (rated : DidRate a who readers u) where
      gives : IsGiven readers x (rated_part readers (part_drawn cell x))
      gives = given (eqb (length x.spare) 0) cell readers x draws

      abbrev y : Part
      y = given_part gives.own gives.spare readers x

      u_there : u ≡ with_part who y v
      u_there = rated.view_is
          ∙ ap (λ (z : Part). with_part who (rated_part readers z) a) a_is
          ∙ ap (λ (z : Part). with_part who z a) gives.is
          ∙ ap (λ (t : View). with_part who y t) drew.view_is
          ∙ with_part-again who (part_drawn cell x) y v

      y_is : part_of u who ≡ y
      y_is = part_of-changed v who u y x (has v who active) u_there

      y_in : part_in u who ≡ Some y
      y_in = changed_here v who u y x (has v who active) u_there

      left : SpareIs cells (part_of u who) × NewestOwns cell (part_of u who)
      left = rated.left cells cell drew.drawn

      pub active_given : is_active (part_of u who).place ≡ true
      active_given = ap (λ (z : Part). is_active z.place) y_is ∙ active

      pub copies_given : (part_of u who).task ≡ task.Copies 0
      copies_given = ap (λ (z : Part). z.task) y_is

      pub base_given : (newest_claimed (part_of u who)).cell ≡ base
      base_given = ap (λ (z : Part). (newest_claimed z).cell) y_is ∙ ap (λ (w : Claim). w.version.cell) (newest_given x.current gives.own there) ∙ base_is

      pub owns_given : NewestOwns cell (part_of u who)
      owns_given = left.1

      owns_y : NewestOwns cell y
      owns_y = subst (λ (z : Part). NewestOwns cell z) y_is left.1

      cell_is : gives.own.cell ≡ cell
      cell_is = eqb-true gives.own.cell cell (subst (λ (o : Option OwnCell). is_own cell o ≡ true) (newest_owns x.current gives.own there) owns_y)

      abbrev k : ℕ
      k = last_claim x.current

      abbrev one : Claim
      one = record (claim_at x.current k) { own = Some gives.own }

      placed : place_of cell y ≡ k
      placed = known_place u who y y_in rated.known cell (last_claim y.current) owns_y ∙ given_place x.current gives.own

      row_is : newest_base y ≡ one.base
      row_is = ap (λ (w : Claim). w.base) (newest_given x.current gives.own there)

      copied_is : part_with_rows (place_of cell y) (newest_base y) (newest_base y) false task.Rest y ≡ filled_part gives.own gives.spare readers x
      copied_is =
          ap (λ (n : ℕ). copied n (claim_at y.current n) (newest_base y) y) placed
          ∙ ap (λ (r : List ℕ). copied k (claim_at y.current k) r y) row_is
          ∙ ap (λ (w : Claim). copied k w one.base y) (given_claim x.current gives.own there)
          ∙ ap (λ (ws : List Claim). record y { task = task.Rest; current = record y.current { writes = ws } }) (set-set x.current.writes k one (filled_claim gives.own (claim_at x.current k)))

      module _ (w : View) (copy : DidCopyRow u who cell w) where
        filled_is : w ≡ with_part who (filled_part gives.own gives.spare readers x) v
        filled_is = copy.view_is
            ∙ ap (λ (z : Part). with_part who (part_with_rows (place_of cell z) (newest_base z) (newest_base z) false task.Rest z) u) y_is
            ∙ ap (λ (z : Part). with_part who z u) copied_is
            ∙ ap (λ (t : View). with_part who (filled_part gives.own gives.spare readers x) t) u_there
            ∙ with_part-again who y (filled_part gives.own gives.spare readers x) v

        pub did_fill : (row : List ℕ) → row ≡ newest_base (part_of u who) → DidFill v who (record { own = cell; readers = readers; row = row }) w
        did_fill row is = record {
          own = gives.own;
          spare = gives.spare;
          cell_is = cell_is;
          small = drew.small;
          row_is = is ∙ ap newest_base y_is ∙ row_is;
          view_is = filled_is;
          known = copy.known;
        }

        pub spare_filled : SpareIs cells (part_of w who)
        spare_filled =
            subst (λ (z : Part). SpareIs cells z) (sym (part_of-changed v who w (filled_part gives.own gives.spare readers x) x (has v who active) filled_is))
            (subst (λ (z : Part). SpareIs cells z) y_is left.0)
