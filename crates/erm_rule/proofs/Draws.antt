-- A draw of a range doesn't carry the tail past the end of a word.
use Rattle.std.proofs.Common.{◌≡◌, ℕ, ◌+◌, ◌%◌, ◌^◌, ◌<◌, ◌≤◌, Bool, true, false, refl, arith}
use Rattle.std.specs.Prelude.{IsSome}
use Rattle.std.proofs.lemmas.Bool.{and_parts, leb-true}
use Rattle.erm_machine.specs.declared.limits.TheConstants.{GREATEST_BLOCK}
use Rattle.erm_machine.specs.declared.event.Kind.TheVariants as kind
use Rattle.erm_machine.specs.declared.part.Part.{Part}
use Rattle.erm_machine.specs.declared.place.Place.{Place}
use Rattle.erm_machine.specs.declared.place.Place.TheVariants.{Sealing}
use Rattle.erm_machine.specs.Life.{add_tail}
use Rattle.erm_machine.specs.Seat.{when}
use Rattle.erm_rule.specs.declared.view.View.{View}
use Rattle.erm_rule.specs.Steps.{Agrees}

-- a guard that is met
pub guard_of : (b : Bool) (x : Part) → IsSome (when b x) → b ≡ true
guard_of true x h = refl
guard_of false x h = absurd (cc)

draws_few : (p size found : ℕ) (x : Part) (pl : Place) → IsSome (add_tail p size found x pl) → size ≤ GREATEST_BLOCK
draws_few p size found x (Sealing tail) h = leb-true size GREATEST_BLOCK (and_parts _ _ (guard_of _ _ h)).1
draws_few p size found x _ h = absurd (cc)

in_a_word : (found size : ℕ) → found < 2 ^ 61 → size ≤ GREATEST_BLOCK → (found + size) % 2 ^ 64 ≡ found + size
in_a_word found size low few = omega arith

pub agrees_to_draw : (v : View) (who size : ℕ) → Agrees v who (kind.AddTail size) (λ n. (n + size) % 2 ^ 64)
agrees_to_draw v who size c sound sees h =
    in_a_word c.shared.tail size sound.common.ranges.below (draws_few who size c.shared.tail (c.seats who) (c.seats who).place h)
