-- The way to the row of an object as of the pin: to the head of its chain, from there to the newest version below the pin, and its row.
use Rattle.std.proofs.Common.{◌≡◌, ℕ, true, List, refl, sym, ap, ◌∙◌, subst}
use Rattle.erm_cells.proofs.Heads.{has}
use Rattle.erm_entries.specs.declared.answer.SeatWait.{SeatWait}
use Rattle.erm_entries.specs.declared.entries.Entry.{Entry}
use Rattle.erm_entries.specs.Calls.{DidReach, DidWait, reached_part}
use Rattle.erm_entries.specs.Spelling.{entry_of, word_of}
use Rattle.erm_entries.specs.Took.{TookReach}
use Rattle.erm_machine.specs.declared.attempt.Claim.{Claim}
use Rattle.erm_machine.specs.declared.limits.TheConstants.{FLUSH_SEAT}
use Rattle.erm_machine.specs.declared.part.Part.{Part}
use Rattle.erm_machine.specs.declared.task.Task.TheVariants as task
use Rattle.erm_machine.specs.declared.version.VersionAt.{VersionAt}
use Rattle.erm_machine.specs.Facts.{Holds}
use Rattle.erm_machine.specs.Seat.{is_active, with_task}
use Rattle.erm_model.specs.Member.{◌∈◌}
use Rattle.erm_model.specs.RowTransaction.{Law}
use Rattle.erm_readers.specs.Walk as walk
use Rattle.erm_rule.specs.declared.view.Book.{Book}
use Rattle.erm_rule.specs.declared.view.View.{View}
use Rattle.erm_rule.specs.Hands.{IsKnown, in_hand}
use Rattle.erm_rule.specs.Views.{part_of, with_part}
use Rattle.erm_rule.specs.Went.{IsLoadStep, Went}
use Rattle.erm_rule.proofs.Parts.{none_there, with_part-again}
use Rattle.erm_rule.proofs.Telling.{part_of-changed}
use Rattle.erm_pin.specs.Pins.{HasLooked, HasFound, IsPinned}
use Rattle.erm_pin.specs.Rows.{IsRowOf}
use Rattle.erm_pin.specs.Took.{TookRow}

abbrev F : ℕ
F = FLUSH_SEAT

module _ (v : View) (pinned : IsPinned v) (oid : ℕ) where
  abbrev x : Part
  x = part_of v F

  -- the flush seat claims nothing
  pub unclaimed : Holds (part_of v F) oid → ⊥
  unclaimed holds = none_there holds.0 (subst (λ (ws : List Claim). holds.0 ∈ ws) pinned.writes holds.1)

  -- the owner isn't clear
  pub looked_wait : (wait : SeatWait) (w : View) → DidWait v F oid wait w → HasLooked v w
  looked_wait wait w did = record { task = task.Owned oid wait.seat; notes = x.clear; starts = refl; view_is = did.view_is; known = did.known }

  -- the head is in hand
  module _ (entry : Entry) (u : View) (spelled : entry_of (word_of entry) ≡ entry) (reach : DidReach v F oid (word_of entry) u) where
    abbrev a : Part
    a = reached_part reach.version reach.head reach.notes x

    a_is : part_of u F ≡ a
    a_is = part_of-changed v F u a x (has v F pinned.active) reach.view_is

    pub walks_active : is_active (part_of u F).place ≡ true
    walks_active = ap (λ (z : Part). is_active z.place) a_is ∙ pinned.active

    pub walks_from : walk.IsWalking (part_of u F).task entry.head
    walks_from = subst (λ (z : Part). walk.IsWalking z.task entry.head) (sym a_is) (reach.cell_is ∙ ap (λ (e : Entry). e.head) spelled)

    pub walks_below : (place : ℕ) → (part_of v F).current.begin ≡ place → (part_of u F).current.begin ≡ place
    walks_below place is = ap (λ (z : Part). z.current.begin) a_is ∙ is

    -- the version is found
    module _ (cell stamp : ℕ) (w : View) (did : walk.DidReach u F cell stamp w) where
      abbrev y : Part
      y = with_task (task.Found did.version stamp did.head) (part_of u F)

      y_is : part_of w F ≡ y
      y_is = part_of-changed u F w y (part_of u F) (has u F walks_active) did.view_is

      pub found_active : is_active (part_of w F).place ≡ true
      found_active = ap (λ (z : Part). is_active z.place) y_is ∙ walks_active

      pub found_there : HasFound (part_of w F).task
      found_there = subst (λ (z : Part). HasFound z.task) (sym y_is) tt

      pub found_cell : (in_hand (part_of w F).task).cell ≡ cell
      found_cell = ap (λ (z : Part). (in_hand z.task).cell) y_is ∙ did.cell_is

      found_version : in_hand (part_of w F).task ≡ did.version
      found_version = ap (λ (z : Part). in_hand z.task) y_is

      pub looked_row : (t : View) → t ≡ w → HasLooked v t
      looked_row t same = record {
        task = task.Found did.version stamp did.head;
        notes = reach.notes;
        starts = refl;
        view_is =
            same ∙ did.view_is ∙ ap (λ (z : Part). with_part F (with_task (task.Found did.version stamp did.head) z) u) a_is
            ∙ ap (λ (z : View). with_part F (with_task (task.Found did.version stamp did.head) a) z) reach.view_is
            ∙ with_part-again F a (with_task (task.Found did.version stamp did.head) a) v;
        known = subst IsKnown (sym same) did.known;
      }

      pub took_row : (law : Law) (place : ℕ) (row : List ℕ) (b m e : Book) → e.view ≡ w → TookReach law F oid place (word_of entry) b m → Went law F IsLoadStep m e
          → IsRowOf e (in_hand (part_of w F).task) row → TookRow law oid place row b e
      took_row law place row b m e same took loads is = record {
        entered = m;
        entry = word_of entry;
        reach = took;
        loads = loads;
        version = did.version;
        stamp = stamp;
        head = did.head;
        found = ap (λ (z : View). (part_of z F).task) same ∙ ap (λ (z : Part). z.task) y_is;
        oid_is = did.oid_is ∙ ap (λ (z : Part). (in_hand z.task).oid) a_is ∙ reach.oid_is;
        row_is = subst (λ (z : VersionAt). IsRowOf e z row) found_version is;
      }
