-- Where a seat stands, and what a sound state with a view's parts says of it.
use Rattle.std.proofs.Common.{◌≡◌, ℕ, ◌<◌, true, false, ◌||◌, Some, refl, subst}
use Rattle.std.specs.Prelude.{IsSome}
use Rattle.std.proofs.lemmas.Bool.{eq-eqb}
use Rattle.erm_machine.specs.declared.event.Kind.{Kind}
use Rattle.erm_machine.specs.declared.limits.TheConstants.{OBJECT_LIMIT}
use Rattle.erm_machine.specs.declared.part.Part.{Part}
use Rattle.erm_machine.specs.declared.place.Place.{Place}
use Rattle.erm_machine.specs.declared.place.Place.TheVariants.{Active, Sealed, Decided, Leaving}
use Rattle.erm_machine.specs.declared.task.Task.{Task}
use Rattle.erm_machine.specs.declared.version.CellWord.{CellWord}
use Rattle.erm_machine.specs.declared.version.VersionAt.{VersionAt}
use Rattle.erm_machine.specs.Core.{Spot, version_word, spot_of}
use Rattle.erm_machine.specs.Facts.{over_of}
use Rattle.erm_machine.specs.Readers.{cleared_of, raised_of}
use Rattle.erm_machine.specs.Seat.{is_active, is_sealed, is_decided, is_vacant, same_version}
use Rattle.erm_machine.specs.Sound.{Own}
use Rattle.erm_rule.specs.declared.view.View.{View}
use Rattle.erm_rule.specs.Cells.{IsTold}
use Rattle.erm_rule.specs.Hands.{IsKnown}
use Rattle.erm_rule.specs.Steps.{Ready, Told}
use Rattle.erm_rule.specs.Views.{part_in}
use Rattle.erm_rule.proofs.Lives.{Lives, Meets}
use Rattle.erm_rule.proofs.Numbered.{known_after, known_met}
use Rattle.erm_cells.proofs.Views.{both}

-- places that aren't vacant
pub sealed_taken : (pl : Place) → is_sealed pl ≡ true → is_vacant pl ≡ false
sealed_taken (Sealed tail stamp) e = refl
sealed_taken _ e = absurd (cc)

pub sealed_later : (pl : Place) → is_sealed pl ≡ true → is_active pl ≡ false
sealed_later (Sealed tail stamp) e = refl
sealed_later _ e = absurd (cc)

pub decided_ending : (pl : Place) → is_decided pl ≡ true → (is_decided pl || is_active pl) ≡ true
decided_ending (Decided tail stamp) e = refl
decided_ending _ e = absurd (cc)

pub active_ending : (pl : Place) → is_active pl ≡ true → (is_decided pl || is_active pl) ≡ true
active_ending (Active tail) e = refl
active_ending _ e = absurd (cc)

pub ending_taken : (pl : Place) → (is_decided pl || is_active pl) ≡ true → is_vacant pl ≡ false
ending_taken (Active tail) e = refl
ending_taken (Decided tail stamp) e = refl
ending_taken _ e = absurd (cc)

-- how far an end has come, by its task
pub cleared_ending : (pl : Place) (t : Task) (n : ℕ) → (is_decided pl || is_active pl) ≡ true → cleared_of pl t n ≡ cleared_of (Active 0) t n
cleared_ending (Leaving stamp) t n e = absurd (cc)
cleared_ending _ t n e = refl

pub raised_ending : (pl : Place) (t : Task) (n : ℕ) → (is_decided pl || is_active pl) ≡ true → raised_of pl t n ≡ raised_of (Active 0) t n
raised_ending (Leaving stamp) t n e = absurd (cc)
raised_ending _ t n e = refl

pub over_ending : (pl : Place) (t : Task) (n : ℕ) → (is_decided pl || is_active pl) ≡ true → over_of pl t n ≡ over_of (Active 0) t n
over_ending (Leaving stamp) t n e = absurd (cc)
over_ending _ t n e = refl

pub same_self : (v : VersionAt) → same_version v v ≡ true
same_self v = both _ _ (both _ _ (eq-eqb v.oid v.oid refl) (eq-eqb v.place v.place refl)) (eq-eqb v.cell v.cell refl)

-- what a sound state with these parts says of the seat
pub own_in : (v : View) (who : ℕ) (x : Part) (known : IsKnown v) → part_in v who ≡ Some x → Own known.core.shared who x
own_in v who x known has = subst (λ (z : Part). Own known.core.shared who z) (known.is_view who x has) (known.sound.own who)

-- the object of the version that a step meets is one that there is
pub object_met : (v : View) (who : ℕ) (k : Kind) (u : VersionAt) (w : CellWord) (known : IsKnown v) → IsSome (part_in v who) → IsTold k → Ready v who k
    → (Meets known.core who k → Lives known.core (spot_of who k)) → spot_of who k ≡ version_word u w → u.oid < OBJECT_LIMIT
object_met v who k u w known has told ready there is = (subst (λ (t : Spot). Lives known.core t) is (there (known_met v who k known has told ready))).object

-- the state after a step is one that the view after is known by
abbrev pub known_there : (v : View) (who : ℕ) (k : Kind) (found : ℕ) (w : View) → Told v who k found w → IsKnown w
known_there v who k found w told = record {
  core = told.after;
  sound = told.sound_after;
  cuts = told.cuts_after;
  is_view = told.is_view_after;
  limit = told.limit_after;
  in_order = (known_after v who k found w told).in_order;
}
