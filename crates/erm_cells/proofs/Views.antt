-- What a step tells, where the part after is known; and tests of guards.
use Rattle.std.proofs.Common.{◌≡◌, ℕ, Bool, true, false, ◌&&◌, Option, Some, is_some, refl, sym, ap, ◌∙◌, subst}
use Rattle.std.specs.Prelude.{if◌then◌else◌}
use Rattle.std.proofs.lemmas.Option.{same_Some}
use Rattle.erm_machine.specs.declared.event.Kind.{Kind}
use Rattle.erm_machine.specs.declared.part.Part.{Part}
use Rattle.erm_machine.specs.declared.place.Place.{Place}
use Rattle.erm_machine.specs.declared.place.Place.TheVariants.{Active}
use Rattle.erm_machine.specs.Core.{Core, spot_of, word_at}
use Rattle.erm_machine.specs.Seat.{when, is_active, is_sealed, is_vacant}
use Rattle.erm_machine.specs.Sound.{Sound}
use Rattle.erm_machine.specs.Step.{part_after}
use Rattle.erm_rule.specs.declared.view.View.{View}
use Rattle.erm_rule.specs.Steps.{Ready, Told}
use Rattle.erm_rule.specs.Views.{part_in, with_part}
use Rattle.erm_rule.proofs.Parts.{with_part-again}
use Rattle.erm_rule.proofs.Telling.{ready_by, changed_here}

-- an active seat isn't vacant, and hasn't sealed
pub active_taken : (pl : Place) → is_active pl ≡ true → is_vacant pl ≡ false
active_taken (Active tail) e = refl
active_taken _ e = absurd (cc)

pub active_unsealed : (pl : Place) → is_active pl ≡ true → is_sealed pl ≡ false
active_unsealed (Active tail) e = refl
active_unsealed _ e = absurd (cc)

-- guards
pub when_true : (b : Bool) (z : Part) → b ≡ true → when b z ≡ Some z
when_true true z e = refl
when_true false z e = absurd (cc)

pub both : (a b : Bool) → a ≡ true → b ≡ true → (a && b) ≡ true
both a b e f = cc

pub first_branch : (b : Bool) (l r o : Option Part) → b ≡ true → l ≡ o → (if b then l else r) ≡ o
first_branch true l r o e f = f
first_branch false l r o e f = absurd (cc)

pub other_branch : (b : Bool) (l r o : Option Part) → b ≡ false → r ≡ o → (if b then l else r) ≡ o
other_branch true l r o e f = absurd (cc)
other_branch false l r o e f = f

pub choose : {X : Type 0} (b : Bool) (l r : X) → b ≡ true → (if b then l else r) ≡ l
choose true l r e = refl
choose false l r e = absurd (cc)

pub refuse : {X : Type 0} (b : Bool) (l r : X) → b ≡ false → (if b then l else r) ≡ r
refuse true l r e = absurd (cc)
refuse false l r e = refl

-- a step is ready where its guard is met, which gives this part after
pub ready_at : (v : View) (who : ℕ) (k : Kind) (x : Part) → part_in v who ≡ Some x → (y : Core → Part)
    → ((c : Core) → Sound c → part_after who k (word_at c (spot_of who k)) c.shared x ≡ Some (y c)) → Ready v who k
ready_at v who k x has y after = ready_by v who k x has (λ c sound is. ap (λ (o : Option Part). is_some o) (after c sound))

-- the view after a first step, and after a later one
pub told_is : (v : View) (who : ℕ) (k : Kind) (found : ℕ) (w : View) (x y : Part) → part_in v who ≡ Some x → (told : Told v who k found w)
    → part_after who k found told.before.shared x ≡ Some y → w ≡ with_part who y v
told_is v who k found w x y has told after =
    let before : told.before.seats who ≡ x = told.is_view who x has in
    let part : Some told.part ≡ Some y = sym (subst (λ (z : Part). part_after who k found told.before.shared z ≡ Some told.part) before told.part_is) ∙ after in
    told.view_is ∙ ap (λ (z : Part). with_part who z v) (same_Some told.part y part)

pub told_next : (v : View) (who : ℕ) (k : Kind) (found : ℕ) (u w : View) (x old y : Part) → part_in v who ≡ Some old → u ≡ with_part who x v → (told : Told u who k found w)
    → part_after who k found told.before.shared x ≡ Some y → w ≡ with_part who y v
told_next v who k found u w x old y has is told after =
    told_is u who k found w x y (changed_here v who u x old has is) told after ∙ ap (λ (t : View). with_part who y t) is ∙ with_part-again who x y v
