-- A read from the head on: the version found is registered and rated, and its row is loaded.
use Rattle.std.proofs.Common.{◌≡◌, ℕ, ◌<◌, Bool, true, false, List, [], ◌∷◌, length, Option, inl, refl, sym, ap, ◌∙◌, subst, eqb}
use Rattle.std.specs.Prelude.{if◌then◌else◌}
use Rattle.erm_model.specs.Member.{◌∈◌}
use Rattle.erm_model.specs.declared.limits.TheConstants.{READ_LIMIT}
use Rattle.erm_machine.specs.declared.attempt.Attempt.{Attempt}
use Rattle.erm_machine.specs.declared.attempt.Read.{Read}
use Rattle.erm_machine.specs.declared.part.Part.{Part}
use Rattle.erm_machine.specs.declared.task.Task.TheVariants as task
use Rattle.erm_machine.specs.declared.version.Cell.{Cell}
use Rattle.erm_machine.specs.Reading.{has_read}
use Rattle.erm_machine.specs.Seat.{is_active, with_pred, with_succ, with_task}
use Rattle.erm_machine.specs.Snapshot.{ReadFits}
use Rattle.erm_machine.specs.Sound.{Own}
use Rattle.erm_machine.proofs.Listed.{∈-head, ∈-second}
use Rattle.erm_rule.specs.declared.view.View.{View}
use Rattle.erm_rule.specs.Hands.{in_hand}
use Rattle.erm_rule.specs.Views.{part_of, with_part}
use Rattle.erm_rule.proofs.Parts.{with_part-again}
use Rattle.erm_rule.proofs.Telling.{changed_here, part_of-changed}
use Rattle.erm_cells.specs.Rows.{DidLoadRow, MayLoadRow}
use Rattle.erm_cells.proofs.Heads.{has}
use Rattle.erm_readers.specs.Calls.{found_stamp, overwriter_succ, rated_part, registered_part, words_of, DidRateRead, DidRegister, IsRegistered, IsToBeRead}
use Rattle.erm_readers.specs.Walk.{DidReach}
use Rattle.erm_readers.proofs.Seats.{own_in}
use Rattle.erm_rows.specs.declared.active.Active.{Active}
use Rattle.erm_rows.specs.Active.{Adds, IsActive}
use Rattle.erm_rows.specs.Reads.{read_part, DidRead}
use Rattle.erm_rows.proofs.Kept.{kept_read}

-- a rate leaves what was read, and the begin stamp
rated_reads : (none : Bool) (succ from : ℕ) (t : Attempt) → (if none then t else with_succ succ from t).reads ≡ t.reads
rated_reads true succ from t = refl
rated_reads false succ from t = refl

rated_begin : (none : Bool) (succ from : ℕ) (t : Attempt) → (if none then t else with_succ succ from t).begin ≡ t.begin
rated_begin true succ from t = refl
rated_begin false succ from t = refl

module _ (v : View) (who oid : ℕ) (active : is_active (part_of v who).place ≡ true) (object : (in_hand (part_of v who).task).oid ≡ oid)
    (unread : has_read oid (part_of v who).current ≡ false) (cell stamp : ℕ) (found : View) (reach : DidReach v who cell stamp found) where
  abbrev x : Part
  x = part_of v who

  -- found
  abbrev a : Part
  a = with_task (task.Found reach.version stamp reach.head) x

  a_is : part_of found who ≡ a
  a_is = part_of-changed v who found a x (has v who active) reach.view_is

  oid_is : reach.version.oid ≡ oid
  oid_is = reach.oid_is ∙ object

  pub active_found : is_active (part_of found who).place ≡ true
  active_found = ap (λ (z : Part). is_active z.place) a_is ∙ active

  pub room_found : (many : ℕ) → many ≡ length x.current.reads → many < READ_LIMIT → length (part_of found who).current.reads < READ_LIMIT
  room_found many is low = subst (λ (z : Part). length z.current.reads < READ_LIMIT) (sym a_is) (subst (λ (n : ℕ). n < READ_LIMIT) is low)

  pub to_be_read : IsToBeRead (part_of found who).current (part_of found who).task cell
  to_be_read = subst (λ (z : Part). IsToBeRead z.current z.task cell) (sym a_is) (reach.cell_is, subst (λ (n : ℕ). has_read n x.current ≡ false) (sym oid_is) unread)

  -- registered
  module _ (registered : View) (reg : DidRegister found who registered) where
    abbrev words : Cell
    words = words_of reg.known.core reach.version

    abbrev b : Part
    b = registered_part reach.version words a

    b_there : registered ≡ with_part who b v
    b_there = reg.view_is
        ∙ ap (λ (z : Part). with_part who (registered_part (in_hand z.task) (words_of reg.known.core (in_hand z.task)) z) found) a_is
        ∙ ap (λ (u : View). with_part who b u) reach.view_is
        ∙ with_part-again who a b v

    b_is : part_of registered who ≡ b
    b_is = part_of-changed v who registered b x (has v who active) b_there

    pub active_registered : is_active (part_of registered who).place ≡ true
    active_registered = ap (λ (z : Part). is_active z.place) b_is ∙ active

    pub is_registered : IsRegistered (part_of registered who).task cell
    is_registered = subst (λ (z : Part). IsRegistered z.task cell) (sym b_is) reach.cell_is

    stamp_is : words.stamp ≡ stamp
    stamp_is = subst (λ (z : Part). (words_of reg.known.core (in_hand z.task)).stamp ≡ found_stamp z.task) a_is reg.stamp_is

    -- rated
    module _ (succ : Option ℕ) (u : View) (rate : DidRateRead registered who succ u) where
      abbrev now : Cell
      now = words_of rate.known.core reach.version

      abbrev r : Read
      r = record { version = reach.version; stamp = words.stamp; row = words.row }

      abbrev y : Part
      y = read_part r now x.clear x

      y_there : u ≡ with_part who y v
      y_there = rate.view_is
          ∙ ap (λ (z : Part). with_part who (rated_part (in_hand z.task) (words_of rate.known.core (in_hand z.task)) z) registered) b_is
          ∙ ap (λ (t : View). with_part who y t) b_there
          ∙ with_part-again who b y v

      y_is : part_of u who ≡ y
      y_is = part_of-changed v who u y x (has v who active) y_there

      succ_is : succ ≡ overwriter_succ now
      succ_is = subst (λ (z : Part). succ ≡ overwriter_succ (words_of rate.known.core (in_hand z.task))) b_is rate.succ_is

      pub active_rated : is_active (part_of u who).place ≡ true
      active_rated = ap (λ (z : Part). is_active z.place) y_is ∙ active

      pub may_load : MayLoadRow (part_of u who).task
      may_load = subst (λ (z : Part). MayLoadRow z.task) (sym y_is) tt

      pub cell_rated : (in_hand (part_of u who).task).cell ≡ cell
      cell_rated = ap (λ (z : Part). (in_hand z.task).cell) y_is ∙ reach.cell_is

      abbrev read_so : Attempt
      read_so = record (with_pred words.stamp x.current) { reads = b.current.reads }

      r_in : r ∈ y.current.reads
      r_in =
          subst (λ (l : List Read). r ∈ l) (sym (rated_reads (eqb now.overwriter 0) now.overwriter_succ now.overwriter read_so))
          (∈-second x.current.reads (r ∷ []) r (∈-head r []))

      own : Own rate.known.core.shared who y
      own = own_in u who y rate.known (changed_here v who u y x (has v who active) y_there)

      fits : ReadFits rate.known.core.shared x.current.begin r
      fits =
          subst (λ (n : ℕ). ReadFits rate.known.core.shared n r) (rated_begin (eqb now.overwriter 0) now.overwriter_succ now.overwriter read_so)
          (own.snapshot.reads y.current r (∈-second y.over (y.current ∷ []) y.current (∈-head y.current [])) r_in)

      -- its row is loaded
      module _ (row : List ℕ) (w : View) (load : DidLoadRow u who row w) where
        row_is : r.row ≡ row
        row_is = sym (load.row_is r (subst (λ (z : Part). r ∈ z.current.reads) (sym y_is) r_in) (sym (ap (λ (z : Part). in_hand z.task) y_is)))

        pub did_read : DidRead v who oid row w
        did_read = subst (λ (t : View). DidRead v who oid row t) (sym load.view_is) (record {
          read = r;
          oid_is = oid_is;
          row_is = row_is;
          known = rate.known;
          fits = fits;
          notes = x.clear;
          noted_by = inl refl;
          view_is = y_there;
        })

        pub unnoted : (part_of w who).clear ≡ x.clear
        unnoted = ap (λ (t : View). (part_of t who).clear) load.view_is ∙ ap (λ (z : Part). z.clear) y_is

        pub keeps : (old new : Active) → IsActive old x → Adds old (record { oid = oid; cell = cell }) stamp succ new → IsActive new (part_of w who)
        keeps old new is adds =
            subst (λ (t : View). IsActive new (part_of t who)) (sym load.view_is)
            (subst (λ (z : Part). IsActive new z) (sym y_is)
            (kept_read old new x r now x.clear (record { oid = oid; cell = cell }) stamp succ is adds (record { oid = sym oid_is; cell = sym reach.cell_is }) stamp_is succ_is))
