-- An end clears the own bits at the versions read.
use Rattle.std.proofs.Common.{◌≡◌, ℕ, ◌+◌, ◌<◌, ◌≤◌, true, not, ◌||◌, ◌∷◌, [], Option, Some, None, refl, sym, ap, ◌∙◌, subst, eqb, length, arith}
use Rattle.std.proofs.lemmas.Bool.{eq-eqb, lt-ltb}
use Rattle.std.proofs.lemmas.Nat.Bits.{bit_at-lt}
use Rattle.erm_model.proofs.Members.{∈-at}
use Rattle.erm_machine.specs.declared.attempt.Attempt.{Attempt}
use Rattle.erm_machine.specs.declared.attempt.Decision.{Decision}
use Rattle.erm_machine.specs.declared.attempt.Decision.TheVariants.{Commit}
use Rattle.erm_machine.specs.declared.event.Kind.TheVariants as kind
use Rattle.erm_machine.specs.declared.limits.TheConstants.{OBJECT_LIMIT}
use Rattle.erm_machine.specs.declared.part.Part.{Part}
use Rattle.erm_machine.specs.declared.place.Place.TheVariants.{Active}
use Rattle.erm_machine.specs.declared.task.Task.{Task}
use Rattle.erm_machine.specs.declared.task.Task.TheVariants as task
use Rattle.erm_machine.specs.declared.version.CellWord.TheVariants as word
use Rattle.erm_machine.specs.declared.version.VersionAt.{VersionAt}
use Rattle.erm_machine.specs.Readers.{bit_of, cleared, cleared_of, raised}
use Rattle.erm_machine.specs.Seat.{with_task, end_of, is_active, is_commit, is_decided, no_read, read_at}
use Rattle.erm_machine.specs.Settling.{clear_reader}
use Rattle.erm_machine.specs.Snapshot.{ReadFits}
use Rattle.erm_machine.specs.Sound.{Own}
use Rattle.erm_machine.proofs.Listed.{∈-head, ∈-second}
use Rattle.erm_rule.specs.declared.view.View.{View}
use Rattle.erm_rule.specs.Hands.{IsKnown}
use Rattle.erm_rule.specs.Steps.{Ready, Told}
use Rattle.erm_rule.specs.Views.{part_in, part_of, with_part}
use Rattle.erm_rule.proofs.Telling.{changed_here, held_part, is_held}
use Rattle.erm_cells.specs.Hands.{clear_kind, cleared_by, next_cleared}
use Rattle.erm_cells.proofs.Views.{when_true, both, ready_at, told_is}
use Rattle.erm_readers.specs.Calls.{DidUnregister, IsClearing, cleared_once, words_of}
use Rattle.erm_readers.proofs.Seats.{cleared_ending, ending_taken, known_there, object_met, own_in, same_self}

commit_raised : (d : Decision) (raised reads : ℕ) → (d ≡ Commit → raised ≡ reads) → (not (is_commit d) || eqb raised reads) ≡ true
commit_raised Commit raised reads h = eq-eqb raised reads (h refl)
commit_raised _ raised reads h = refl

-- how many bits are cleared, by how far the end has come
abbrev cleared_at : Option (ℕ × ℕ × ℕ × ℕ) → ℕ
cleared_at None = 0
cleared_at (Some e) = e.3

cleared_there : (t : Task) → cleared_by t ≡ cleared_at (end_of t)
cleared_there (task.Ends raised ended step cleared) = refl
cleared_there _ = refl

after_clear : (x : Part) (o : Option (ℕ × ℕ × ℕ × ℕ)) → (is_decided x.place || is_active x.place) ≡ true → IsClearing x.current o
    → clear_reader (read_at x.current (cleared_at o)).version x o ≡ Some (with_task (cleared_once o) x)
after_clear x None ending clearing = absurd clearing
after_clear x (Some e) ending clearing =
    when_true _ (with_task (cleared_once (Some e)) x)
    (both _ _ (both _ _ (both _ _ (both _ _ ending (eq-eqb e.1 (length x.current.writes) clearing.0)) (lt-ltb _ _ clearing.1))
    (commit_raised x.current.decision e.0 (length x.current.reads) clearing.2)) (same_self (read_at x.current e.3).version))

clears_within : (t : Attempt) (o : Option (ℕ × ℕ × ℕ × ℕ)) → IsClearing t o → cleared_at o < length t.reads
clears_within t None clearing = absurd clearing
clears_within t (Some e) clearing = clearing.1

clears_more : (t : Attempt) (o : Option (ℕ × ℕ × ℕ × ℕ)) (n : ℕ) → IsClearing t o → cleared_of (Active 0) (cleared_once o) n ≡ cleared_at o + 1
clears_more t None n clearing = absurd clearing
clears_more t (Some e) n clearing = refl

no_bit : (n : ℕ) → n < 2 → (n ≡ 1 → ⊥) → n ≡ 0
no_bit n low ne = omega (arith, low, ne)

module _ (v : View) (who : ℕ) (known : IsKnown v) (ending : (is_decided (part_of v who).place || is_active (part_of v who).place) ≡ true)
    (clearing : IsClearing (part_of v who).current (end_of (part_of v who).task)) where
  abbrev z : Part
  z = part_of v who

  abbrev read : ℕ
  read = cleared_at (end_of z.task)

  abbrev cleared_version : VersionAt
  cleared_version = (read_at z.current read).version

  pub has_ending : part_in v who ≡ Some z
  has_ending = held_part v who (ending_taken z.place ending)

  cleared_is : next_cleared z ≡ cleared_version
  cleared_is = ap (λ (n : ℕ). (read_at z.current n).version) (cleared_there z.task)

  abbrev y : Part
  y = with_task (cleared_once (end_of z.task)) z

  ready_version : Ready v who (kind.ClearReader cleared_version)
  ready_version = ready_at v who (kind.ClearReader cleared_version) z has_ending (λ c. y) (λ c sound. after_clear z (end_of z.task) ending clearing)

  pub ready_clear : Ready v who (clear_kind z)
  ready_clear = subst (λ (n : VersionAt). Ready v who (kind.ClearReader n)) (sym cleared_is) ready_version

  pub object_of_cleared : (next_cleared z).oid < OBJECT_LIMIT
  object_of_cleared = object_met v who (clear_kind z) (next_cleared z) word.Readers known (is_held v who z has_ending) tt ready_clear (λ m. m) refl

  module _ (found : ℕ) (w : View) (first : Told v who (clear_kind z) found w) where
    told : Told v who (kind.ClearReader cleared_version) found w
    told = subst (λ (n : VersionAt). Told v who (kind.ClearReader n) found w) cleared_is first

    now : IsKnown w
    now = known_there v who (kind.ClearReader cleared_version) found w told

    is : w ≡ with_part who y v
    is = told_is v who (kind.ClearReader cleared_version) found w z y has_ending told (after_clear z (end_of z.task) ending clearing)

    own : Own now.core.shared who y
    own = own_in w who y now (changed_here v who w y z has_ending is)

    within : read < length z.current.reads
    within = clears_within z.current (end_of z.task) clearing

    more : cleared y ≡ read + 1
    more = cleared_ending z.place y.task (length z.current.reads) ending ∙ clears_more z.current (end_of z.task) (length z.current.reads) clearing

    fits : ReadFits now.core.shared z.current.begin (read_at z.current read)
    fits = own.snapshot.reads y.current (read_at z.current read) (∈-second y.over (y.current ∷ []) y.current (∈-head y.current [])) (∈-at z.current.reads read no_read within)

    unset : bit_of now.core.shared who cleared_version.oid cleared_version.place ≡ 1 → ⊥
    unset set =
        let other = own.readers.only cleared_version.oid cleared_version.place fits.named.object fits.named.within set in
        let from : cleared y ≤ other.0 = other.1 in
        own.readers.once read other.0 (omega (arith, from, more)) other.2 (sym other.3)

    bit : bit_of now.core.shared who cleared_version.oid cleared_version.place ≡ 0
    bit = no_bit _ (bit_at-lt (words_of now.core cleared_version).readers who) unset

    pub did_unregister : DidUnregister v who w
    did_unregister = record {
      known = now;
      view_is = is;
      bit = subst (λ (n : VersionAt). bit_of now.core.shared who n.oid n.place ≡ 0) (sym cleared_is) bit;
    }
