-- A settle loads the bits of readers of versions overwritten.
use Rattle.std.proofs.Common.{◌≡◌, ℕ, ◌<◌, true, Some, refl, sym, ap, ◌∙◌, length}
use Rattle.std.proofs.lemmas.Bool.{eq-eqb, lt-ltb}
use Rattle.erm_machine.specs.declared.limits.TheConstants.{OBJECT_LIMIT}
use Rattle.erm_machine.specs.declared.part.Part.{Part}
use Rattle.erm_machine.specs.declared.task.Task.{Task}
use Rattle.erm_machine.specs.declared.task.Task.TheVariants as task
use Rattle.erm_machine.specs.declared.version.CellWord.TheVariants as word
use Rattle.erm_machine.specs.Core.{Shared, claim_at, spot_of, word_at}
use Rattle.erm_machine.specs.Seat.{with_task, is_sealed}
use Rattle.erm_machine.specs.Settling.{load_readers}
use Rattle.erm_machine.specs.Step.{part_after}
use Rattle.erm_machine.specs.Words.{without_bit}
use Rattle.erm_rule.specs.declared.view.View.{View}
use Rattle.erm_rule.specs.Hands.{IsKnown}
use Rattle.erm_rule.specs.Steps.{Ready, Told}
use Rattle.erm_rule.specs.Views.{part_in, part_of, with_part}
use Rattle.erm_rule.proofs.Telling.{held_part, is_held}
use Rattle.erm_cells.specs.Hands.{readers_kind, settled_by, settled_claim}
use Rattle.erm_cells.proofs.Views.{when_true, both, ready_at, told_is}
use Rattle.erm_readers.specs.Calls.{DidLoadReaders, IsAtReaders, looking}
use Rattle.erm_readers.proofs.Loads.{readers_loaded}
use Rattle.erm_readers.proofs.Seats.{known_there, object_met, same_self, sealed_taken}

-- the part once the bits of readers are loaded
after_bits : (seat found : ℕ) (x : Part) (t : Task) → is_sealed x.place ≡ true → IsAtReaders x.current t
    → load_readers seat (claim_at x.current (settled_by t)).version found x t ≡ Some (with_task (looking (without_bit found seat) t) x)
after_bits seat found x (task.Settles reads writes) sealed at =
    when_true _ (with_task (looking (without_bit found seat) (task.Settles reads writes)) x)
    (both _ _ (both _ _ (both _ _ sealed (eq-eqb reads (length x.current.reads) at.0)) (lt-ltb _ _ at.1)) (same_self (claim_at x.current writes).version))
after_bits seat found x _ sealed at = absurd at

module _ (v : View) (who : ℕ) (known : IsKnown v) (sealed : is_sealed (part_of v who).place ≡ true) where
  abbrev x : Part
  x = part_of v who

  pub has_sealed : part_in v who ≡ Some x
  has_sealed = held_part v who (sealed_taken x.place sealed)

  -- the bits of readers
  module _ (at : IsAtReaders (part_of v who).current (part_of v who).task) where
    after_readers : (found : ℕ) (s : Shared) → part_after who (readers_kind x) found s x ≡ Some (with_task (looking (without_bit found who) x.task) x)
    after_readers found s = after_bits who found x x.task sealed at

    pub ready_readers : Ready v who (readers_kind x)
    ready_readers =
        ready_at v who (readers_kind x) x has_sealed (λ c. with_task (looking (without_bit (word_at c (spot_of who (readers_kind x))) who) x.task) x)
        (λ c sound. after_readers (word_at c (spot_of who (readers_kind x))) c.shared)

    pub object_of_readers : (settled_claim x).oid < OBJECT_LIMIT
    object_of_readers = object_met v who (readers_kind x) (settled_claim x) word.Readers known (is_held v who x has_sealed) tt ready_readers (λ m. m) refl

    pub did_load_readers : (bits others : ℕ) (u : View) → others ≡ without_bit bits who → Told v who (readers_kind x) bits u → DidLoadReaders v who others u
    did_load_readers bits others u is told = record {
      known = known_there v who (readers_kind x) bits u told;
      others_are = is ∙ ap (λ (n : ℕ). without_bit n who) (sym (readers_loaded v who (settled_claim x) object_of_readers bits u told));
      view_is = told_is v who (readers_kind x) bits u x (with_task (looking (without_bit bits who) x.task) x) has_sealed told (after_readers bits told.before.shared)
          ∙ ap (λ (n : ℕ). with_part who (with_task (looking n x.task) x) v) (sym is);
    }
