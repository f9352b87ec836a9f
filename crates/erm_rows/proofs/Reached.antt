-- A read's way to the head, and then from it on; and a read that waits.
use Rattle.std.proofs.Common.{◌≡◌, ℕ, inl, inr, true, false, List, Option, Some, None, refl, sym, ap, ◌∙◌, subst}
use Rattle.erm_machine.specs.declared.part.Part.{Part}
use Rattle.erm_machine.specs.declared.task.Task.TheVariants as task
use Rattle.erm_machine.specs.Reading.{has_read}
use Rattle.erm_machine.specs.Seat.{is_active, with_task}
use Rattle.erm_rule.specs.declared.view.View.{View}
use Rattle.erm_rule.specs.Hands.{in_hand}
use Rattle.erm_rule.specs.Views.{part_of, with_part}
use Rattle.erm_rule.proofs.Parts.{with_part-again}
use Rattle.erm_rule.proofs.Telling.{part_of-changed}
use Rattle.erm_cells.proofs.Heads.{has}
use Rattle.erm_entries.specs.declared.answer.SeatWait.{SeatWait}
use Rattle.erm_entries.specs.declared.entries.Entry.{Entry}
use Rattle.erm_entries.specs.Calls.{reached_part, DidReach, DidWait, IsWay}
use Rattle.erm_entries.specs.Spelling.{entry_of, word_of}
use Rattle.erm_machine.specs.Snapshot.{ReadFits}
use Rattle.erm_readers.specs.Calls.{words_of}
use Rattle.erm_readers.specs.Walk.{IsWalking}
use Rattle.erm_rows.specs.declared.active.Active.{Active}
use Rattle.erm_rows.specs.Active.{IsActive}
use Rattle.erm_rows.specs.Reads.{read_part, DidRead, IsNotedBy}
use Rattle.erm_rows.proofs.Kept.{kept_same}

-- what was noted on the way to the head
way_notes : (who entry : ℕ) (x : Part) (head : Option ℕ) (notes : List ℕ) → IsWay who entry x head notes → IsNotedBy who x notes
way_notes who entry x (Some seen) notes way = inl way.2
way_notes who entry x None notes way = inr way

module _ (v : View) (who oid : ℕ) (active : is_active (part_of v who).place ≡ true) where
  abbrev x : Part
  x = part_of v who

  -- the owner isn't clear
  pub kept_waiting : (t : Active) (wait : SeatWait) (w : View) → IsActive t x → DidWait v who oid wait w → IsActive t (part_of w who)
  kept_waiting t wait w is waits =
      let y : Part = with_task (task.Owned oid wait.seat) x in
      subst (λ (z : Part). IsActive t z) (sym (part_of-changed v who w y x (has v who active) waits.view_is)) (kept_same t x y refl is)

  -- the head is in hand
  module _ (entry : Entry) (u : View) (spelled : entry_of (word_of entry) ≡ entry) (reach : DidReach v who oid (word_of entry) u) where
    abbrev a : Part
    a = reached_part reach.version reach.head reach.notes x

    a_is : part_of u who ≡ a
    a_is = part_of-changed v who u a x (has v who active) reach.view_is

    pub active_there : is_active (part_of u who).place ≡ true
    active_there = ap (λ (z : Part). is_active z.place) a_is ∙ active

    pub walks_there : IsWalking (part_of u who).task entry.head
    walks_there = subst (λ (z : Part). IsWalking z.task entry.head) (sym a_is) (reach.cell_is ∙ ap (λ (e : Entry). e.head) spelled)

    pub object_there : (in_hand (part_of u who).task).oid ≡ oid
    object_there = ap (λ (z : Part). (in_hand z.task).oid) a_is ∙ reach.oid_is

    pub unread_there : has_read oid x.current ≡ false → has_read oid (part_of u who).current ≡ false
    unread_there e = ap (λ (z : Part). has_read oid z.current) a_is ∙ e

    pub kept_there : (t : Active) → IsActive t x → IsActive t (part_of u who)
    kept_there t is = subst (λ (z : Part). IsActive t z) (sym a_is) (kept_same t x a refl is)

    pub read_from : (row : List ℕ) (w : View) → DidRead u who oid row w → (part_of w who).clear ≡ (part_of u who).clear → DidRead v who oid row w
    read_from row w did unnoted =
        let y : Part → Part = λ (z : Part). read_part did.read (words_of did.known.core did.read.version) did.notes z in
        let there : part_of w who ≡ y (part_of u who) = part_of-changed u who w (y (part_of u who)) (part_of u who) (has u who active_there) did.view_is in
        let notes_are : did.notes ≡ reach.notes = sym (ap (λ (z : Part). z.clear) there) ∙ unnoted ∙ ap (λ (z : Part). z.clear) a_is in
        record {
          read = did.read;
          oid_is = did.oid_is;
          row_is = did.row_is;
          known = did.known;
          fits = subst (λ (z : Part). ReadFits did.known.core.shared z.current.begin did.read) a_is did.fits;
          notes = did.notes;
          noted_by = subst (λ (l : List ℕ). IsNotedBy who x l) (sym notes_are) (way_notes who (word_of entry) x reach.head reach.notes reach.way);
          view_is = did.view_is
              ∙ ap (λ (z : Part). with_part who (y z) u) a_is
              ∙ ap (λ (t : View). with_part who (y a) t) reach.view_is
              ∙ with_part-again who a (y a) v;
        }
