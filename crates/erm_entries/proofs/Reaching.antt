-- A read's way to the head of an object's chain.
use Rattle.std.proofs.Common.{◌≡◌, ◌≢◌, ℕ, ◌<◌, ◌≤◌, true, false, ◌&&◌, Option, Some, None, refl, sym, ap, ◌∙◌, subst, eqb, leb, arith}
use Rattle.std.specs.Prelude.{if◌then◌else◌}
use Rattle.std.proofs.lemmas.Bool.{eq-eqb, ne_eqb, le-leb}
use Rattle.erm_machine.specs.declared.limits.TheConstants.{OBJECT_LIMIT}
use Rattle.erm_machine.specs.declared.part.Part.{Part}
use Rattle.erm_machine.specs.declared.task.Task.{Task}
use Rattle.erm_machine.specs.declared.task.Task.TheVariants as task
use Rattle.erm_machine.specs.declared.version.VersionAt.{VersionAt}
use Rattle.erm_machine.specs.Bounds.{IsBounded, IsOther}
use Rattle.erm_machine.specs.Core.{Object}
use Rattle.erm_machine.specs.Facts.{Holds}
use Rattle.erm_machine.specs.Life.{after_clear, noted}
use Rattle.erm_machine.specs.Reading.{head_version, entered}
use Rattle.erm_machine.specs.Seat.{with_task, is_active, is_vacant}
use Rattle.erm_machine.specs.Words.{owner_of, is_clear}
use Rattle.erm_rule.specs.declared.view.View.{View}
use Rattle.erm_rule.specs.Hands.{IsKnown}
use Rattle.erm_rule.specs.Views.{part_in, part_of, with_part, IsView}
use Rattle.erm_rule.proofs.Parts.{with_part-again}
use Rattle.erm_rule.proofs.Telling.{changed_here, part_of-changed}
use Rattle.erm_cells.specs.Calls.{DidEnter}
use Rattle.erm_cells.proofs.Heads.{has}
use Rattle.erm_cells.proofs.Views.{active_taken, both, choose, refuse}
use Rattle.erm_seats.specs.declared.answer.Look.TheVariants as look
use Rattle.erm_seats.specs.Calls.{clear_part, DidLook, FindsState}
use Rattle.erm_entries.specs.Calls.{LeadsToSnapshot, reached_part, DidReload, DidReach, DidWait, MayLoad}
use Rattle.erm_entries.proofs.Owners.{holder_is, leads}

-- an entry that nobody owns, and one that another seat owns
free_entered : (who oid entry : ℕ) (o : Object) → owner_of entry ≡ 0 → entered who oid entry o ≡ task.Walks (head_version oid entry o) (Some entry)
free_entered who oid entry o none = choose (eqb (owner_of entry) 0) _ _ (eq-eqb _ _ none)

pub owned_entered : (who oid entry owner : ℕ) (o : Object) → owner_of entry ≡ owner → owner ≢ 0 → owner ≢ who → entered who oid entry o ≡ task.Owned oid owner
owned_entered who oid entry owner o is some other =
    ap (λ (n : ℕ). if eqb n 0 then task.Walks (head_version oid entry o) (Some entry) else (if eqb n who then task.Claimed (head_version oid entry o) else task.Owned oid n)) is
    ∙ refuse (eqb owner 0) (task.Walks (head_version oid entry o) (Some entry)) (if eqb owner who then task.Claimed (head_version oid entry o) else task.Owned oid owner) (ne_eqb _ _ some)
    ∙ refuse (eqb owner who) (task.Claimed (head_version oid entry o)) (task.Owned oid owner) (ne_eqb _ _ other)

-- the version in hand of a walk leads to the snapshot
leads_from : (v w : View) (who : ℕ) (y old : Part) (version : VersionAt) (head : Option ℕ) → part_in v who ≡ Some old → w ≡ with_part who y v → y.task ≡ task.Walks version head → (known : IsKnown w) →
    LeadsToSnapshot known.core who version
leads_from v w who y old version head there is walks known =
    leads known.core who version head known.sound (ap (λ (z : Part). z.task) (known.is_view who y (changed_here v who w y old there is)) ∙ walks)

-- a look that finds the owner clear
cleared_task : (oid owner begin : ℕ) (x : Part) → x.current.begin ≡ begin → after_clear owner begin x (task.Owned oid owner) ≡ task.Cleared oid
cleared_task oid owner begin x is =
    choose (eqb owner owner && leb x.current.begin begin) (task.Cleared oid) (task.Owned oid owner) (both _ _ (eq-eqb owner owner refl) (le-leb _ _ (omega (arith, is))))

module _ (v : View) (who : ℕ) (active : is_active (part_of v who).place ≡ true) (oid begin : ℕ) (known : oid < OBJECT_LIMIT) (begins : (part_of v who).current.begin ≡ begin)
    (first : ℕ) (u : View) (load : DidEnter v who oid first u) where
  abbrev x : Part
  x = part_of v who

  -- nobody owns the entry
  pub did_reach_free : owner_of first ≡ 0 → DidReach v who oid first u
  did_reach_free none =
      let head : VersionAt = head_version oid first load.object in
      let is : u ≡ with_part who (with_task (task.Walks head (Some first)) x) v = load.view_is ∙ ap (λ (t : Task). with_part who (with_task t x) v) (free_entered who oid first load.object none) in
      record {
        version = head;
        head = Some first;
        notes = x.clear;
        oid_is = refl;
        cell_is = refl;
        way = (refl, none, refl);
        view_is = is;
        known = load.known;
        met = load.met;
        leads = leads_from v u who (with_task (task.Walks head (Some first)) x) x head (Some first) (has v who active) is refl load.known;
      }

  -- another seat does
  module _ (unclaimed : Holds (part_of v who) oid → ⊥) (owner : ℕ) (owner_is : owner_of first ≡ owner) (some : owner ≢ 0) where
    abbrev met : Part
    met = with_task (entered who oid first load.object) x

    is_met : load.known.core.seats who ≡ met
    is_met = load.known.is_view who met (changed_here v who u met x (has v who active) load.view_is)

    positive : (n : ℕ) → n ≢ 0 → 0 < n
    positive n ne = grind arith

    not_own : owner ≢ who
    not_own same =
        unclaimed (subst (λ (z : Part). Holds z oid) is_met
        (holder_is load.known.core who oid load.known.sound known (subst (λ n. 0 < n) same (positive owner some)) (ap owner_of load.met ∙ owner_is ∙ same)))

    abbrev pub waiting : Part
    waiting = with_task (task.Owned oid owner) x

    waits : u ≡ with_part who waiting v
    waits = load.view_is ∙ ap (λ (t : Task). with_part who (with_task t x) v) (owned_entered who oid first owner load.object owner_is some not_own)

    has_waiting : part_in u who ≡ Some waiting
    has_waiting = changed_here v who u waiting x (has v who active) waits

    part_is : part_of u who ≡ waiting
    part_is = part_of-changed v who u waiting x (has v who active) waits

    seat_is : load.known.core.seats who ≡ waiting
    seat_is = load.known.is_view who waiting has_waiting

    -- what a look asks
    pub look_taken : is_vacant (part_of u who).place ≡ false
    look_taken = ap (λ (z : Part). is_vacant z.place) part_is ∙ active_taken x.place active

    pub is_other : IsOther who owner
    is_other = subst (λ (z : Part). IsBounded who z.current z.task) seat_is (load.known.sound.own who).bounds.bounded

    pub look_bound : begin ≤ (part_of u who).seen
    look_bound =
        let seen : x.current.begin ≤ x.seen = subst (λ (z : Part). z.current.begin ≤ z.seen) seat_is (load.known.sound.own who).bounds.begin_seen in
        subst (λ (z : Part). begin ≤ z.seen) (sym part_is) (subst (λ n. n ≤ x.seen) begins seen)

    -- the owner isn't clear
    pub did_wait : (seat seen : ℕ) (w : View) → DidLook u who owner begin (look.NotYet seat seen) w → DidWait v who oid (record { seat = seat; seen = seen }) w
    did_wait seat seen w looked =
        let same : seat ≡ owner = looked.0 in
        record {
          entry = first;
          found = record { core = load.known.core; sound = load.known.sound; is_view = subst (λ (z : View). IsView z load.known.core) (sym looked.3) load.known.is_view; met = load.met };
          owner_is = owner_is ∙ sym same;
          other = subst (λ n. IsOther who n) (sym same) is_other;
          finds = subst (λ z. FindsState z seat seen) (sym looked.3) (subst (λ n. FindsState u n seen) (sym same) looked.1);
          unclear = subst (λ n. is_clear seen n ≡ false) (sym begins) looked.2;
          view_is = looked.3 ∙ waits ∙ ap (λ n. with_part who (with_task (task.Owned oid n) x) v) (sym same);
          known = looked.4;
        }

    -- the owner is clear
    module _ (cleared : View) (looked : DidLook u who owner begin look.Clear cleared) where
      abbrev clear : Part
      clear = record x { task = task.Cleared oid; clear = noted owner x.current.begin x.clear }

      is_clear_part : clear_part owner begin waiting ≡ clear
      is_clear_part =
          ap (λ (t : Task). record x { task = t; clear = noted owner begin x.clear }) (cleared_task oid owner begin waiting begins)
          ∙ ap (λ n. record x { task = task.Cleared oid; clear = noted owner n x.clear }) (sym begins)

      view_is : cleared ≡ with_part who clear v
      view_is =
          looked.1 ∙ ap (λ (z : Part). with_part who (clear_part owner begin z) u) part_is ∙ ap (λ (z : Part). with_part who z u) is_clear_part
          ∙ ap (λ (z : View). with_part who clear z) waits ∙ with_part-again who waiting clear v

      part_now : part_of cleared who ≡ clear
      part_now = part_of-changed v who cleared clear x (has v who active) view_is

      pub again_active : is_active (part_of cleared who).place ≡ true
      again_active = ap (λ (z : Part). is_active z.place) part_now ∙ active

      pub again_cleared : (part_of cleared who).task ≡ task.Cleared oid
      again_cleared = ap (λ (z : Part). z.task) part_now

      pub again_starts : MayLoad oid (part_of cleared who).task
      again_starts = subst (λ (t : Task). MayLoad oid t) (sym again_cleared) refl

      pub did_reach_again : (entry : ℕ) (w : View) → DidReload cleared who oid entry w → DidReach v who oid entry w
      did_reach_again entry w again =
          let y : Part = reached_part again.version None (noted owner x.current.begin x.clear) x in
          let is : w ≡ with_part who y v =
          again.view_is ∙ ap (λ (z : Part). with_part who (with_task (task.Walks again.version None) z) cleared) part_now
          ∙ ap (λ (z : View). with_part who y z) view_is ∙ with_part-again who clear y v in
          record {
            version = again.version;
            head = None;
            notes = noted owner x.current.begin x.clear;
            oid_is = again.oid_is;
            cell_is = again.cell_is;
            way = (owner, is_other, refl);
            view_is = is;
            known = again.known;
            met = again.met;
            leads = leads_from v w who y x again.version None (has v who active) is refl again.known;
          }
