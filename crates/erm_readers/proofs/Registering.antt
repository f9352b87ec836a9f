-- A version found is registered.
use Rattle.std.proofs.Common.{◌≡◌, ℕ, ◌<◌, Bool, true, false, not, ◌++◌, ◌∷◌, [], List, length, Option, Some, refl, sym, ap, ◌∙◌, subst, arith}
use Rattle.std.proofs.lemmas.Bool.{lt-ltb}
use Rattle.std.proofs.lemmas.List.{get_or_push, length_push}
use Rattle.erm_machine.specs.declared.attempt.Attempt.{Attempt}
use Rattle.erm_machine.specs.declared.attempt.Read.{Read}
use Rattle.erm_machine.specs.declared.event.Kind.TheVariants as kind
use Rattle.erm_machine.specs.declared.limits.TheConstants.{OBJECT_LIMIT, READ_LIMIT}
use Rattle.erm_machine.specs.declared.part.Part.{Part}
use Rattle.erm_machine.specs.declared.task.Task.{Task}
use Rattle.erm_machine.specs.declared.task.Task.TheVariants as task
use Rattle.erm_machine.specs.declared.version.CellWord.TheVariants as word
use Rattle.erm_machine.specs.declared.version.VersionAt.{VersionAt}
use Rattle.erm_machine.specs.Core.{Shared, spot_of, version_at, word_at}
use Rattle.erm_machine.specs.Reading.{has_read, set_reader}
use Rattle.erm_machine.specs.Readers.{bit_of, cleared}
use Rattle.erm_machine.specs.Seat.{is_active, no_read, read_at, with_pred}
use Rattle.erm_machine.specs.Snapshot.{ReadFits}
use Rattle.erm_machine.specs.Sound.{Own}
use Rattle.erm_machine.specs.Step.{part_after}
use Rattle.erm_machine.specs.Words.{is_session}
use Rattle.erm_machine.proofs.Listed.{∈-head, ∈-second}
use Rattle.erm_rule.specs.declared.view.View.{View}
use Rattle.erm_rule.specs.Hands.{IsKnown, in_hand}
use Rattle.erm_rule.specs.Steps.{Ready, Told}
use Rattle.erm_rule.specs.Views.{part_of, with_part}
use Rattle.erm_rule.proofs.Telling.{changed_here, is_held}
use Rattle.erm_cells.proofs.Heads.{has}
use Rattle.erm_cells.proofs.Views.{when_true, both, ready_at, told_is}
use Rattle.erm_readers.specs.Calls.{found_stamp, words_of, DidRegister, IsToBeRead}
use Rattle.erm_readers.proofs.Seats.{active_ending, cleared_ending, known_there, object_met, own_in, same_self}

-- the version that was found, with its stamp
record WasFound (t : Attempt) (u : Task) (cell : ℕ) : Type 0 where
  pub stamp : ℕ
  pub head : Option ℕ
  pub is : u ≡ task.Found (in_hand u) stamp head
  pub cell_is : (in_hand u).cell ≡ cell
  pub unread : has_read (in_hand u).oid t ≡ false

was_found : (t : Attempt) (u : Task) (cell : ℕ) → IsToBeRead t u cell → WasFound t u cell
was_found t (task.Found version stamp head) cell h = record { stamp = stamp; head = head; is = refl; cell_is = h.0; unread = h.1 }
was_found t _ cell h = absurd h

-- the part that has read a version with this stamp and this row
abbrev read_part : VersionAt → ℕ → List ℕ → Part → Part
read_part version stamp row x = record x {
  task = task.Registered version;
  current = record (with_pred stamp x.current) { reads = x.current.reads ++ record { version = version; stamp = stamp; row = row } ∷ [] };
}

not_so : (b : Bool) → b ≡ false → not b ≡ true
not_so true e = absurd (cc)
not_so false e = refl

module _ (v : View) (who cell : ℕ) (active : is_active (part_of v who).place ≡ true) (session : is_session who ≡ true)
    (room : length (part_of v who).current.reads < READ_LIMIT) (to_read : IsToBeRead (part_of v who).current (part_of v who).task cell) where
  abbrev x : Part
  x = part_of v who

  abbrev hand : VersionAt
  hand = in_hand x.task

  found : WasFound x.current x.task cell
  found = was_found x.current x.task cell to_read

  pub cell_of_found : hand.cell ≡ cell
  cell_of_found = found.cell_is

  abbrev after : Shared → Part
  after s = read_part hand found.stamp (version_at (s.objects hand.oid) hand.place).words.row x

  after_read : (n : ℕ) (s : Shared) → part_after who (kind.SetReader hand) n s x ≡ Some (after s)
  after_read n s =
      subst (λ (t : Task). set_reader who hand (s.objects hand.oid) x t ≡ Some (after s)) (sym found.is)
      (when_true _ (after s)
      (both _ _ (both _ _ (both _ _ (both _ _ active session) (same_self hand)) (lt-ltb _ _ room)) (not_so (has_read hand.oid x.current) found.unread)))

  pub ready_read : Ready v who (kind.SetReader hand)
  ready_read = ready_at v who (kind.SetReader hand) x (has v who active) (λ c. after c.shared) (λ c sound. after_read (word_at c (spot_of who (kind.SetReader hand))) c.shared)

  pub object_of_found : IsKnown v → hand.oid < OBJECT_LIMIT
  object_of_found known = object_met v who (kind.SetReader hand) hand word.Readers known (is_held v who x (has v who active)) tt ready_read (λ m. m) refl

  module _ (n : ℕ) (w : View) (told : Told v who (kind.SetReader hand) n w) where
    known_now : IsKnown w
    known_now = known_there v who (kind.SetReader hand) n w told

    abbrev row : List ℕ
    row = (version_at (told.before.shared.objects hand.oid) hand.place).words.row

    abbrev y : Part
    y = read_part hand found.stamp row x

    abbrev read : Read
    read = record { version = hand; stamp = found.stamp; row = row }

    read_is : w ≡ with_part who y v
    read_is = told_is v who (kind.SetReader hand) n w x y (has v who active) told (after_read n told.before.shared)

    own : Own known_now.core.shared who y
    own = own_in w who y known_now (changed_here v who w y x (has v who active) read_is)

    fits : ReadFits known_now.core.shared x.current.begin read
    fits = own.snapshot.reads y.current read (∈-second y.over (y.current ∷ []) y.current (∈-head y.current [])) (∈-second x.current.reads (read ∷ []) read (∈-head read []))

    last_is : read_at y.current (length x.current.reads) ≡ read
    last_is = get_or_push x.current.reads read no_read (length x.current.reads) refl

    bit : bit_of known_now.core.shared who hand.oid hand.place ≡ 1
    bit =
        let none : cleared y ≡ 0 = cleared_ending x.place (task.Registered hand) (length y.current.reads) (active_ending x.place active) in
        let many = length_push x.current.reads read in
        let set = own.readers.stands (length x.current.reads) (omega (arith, none)) (omega (arith, many)) in
        subst (λ (r : Read). bit_of known_now.core.shared who r.version.oid r.version.place ≡ 1) last_is set

    pub did_register : DidRegister v who w
    did_register = record {
      known = known_now;
      view_is = read_is
          ∙ ap (λ (m : ℕ). with_part who (read_part hand m row x) v) (sym fits.newest.stamp_is)
          ∙ ap (λ (r : List ℕ). with_part who (read_part hand (words_of known_now.core hand).stamp r x) v) (sym fits.row);
      stamp_is = fits.newest.stamp_is ∙ sym (ap found_stamp found.is);
      bit = bit;
    }
