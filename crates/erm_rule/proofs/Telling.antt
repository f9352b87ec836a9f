-- What a step tells, with the seat's part written out.
use Rattle.std.proofs.Common.{◌≡◌, ◌≢◌, ℕ, false, Option, Some, None, is_some, unwrap_or, refl, sym, ap, ◌∙◌, subst}
use Rattle.std.specs.Prelude.{IsSome}
use Rattle.erm_machine.specs.declared.event.Kind.{Kind}
use Rattle.erm_machine.specs.declared.part.Part.{Part}
use Rattle.erm_machine.specs.declared.place.Place.TheVariants.{Vacant}
use Rattle.erm_machine.specs.Core.{Core, Shared, spot_of, word_at, fresh_part}
use Rattle.erm_machine.specs.Seat.{is_vacant}
use Rattle.erm_machine.specs.Sound.{Sound}
use Rattle.erm_machine.specs.Step.{part_after}
use Rattle.erm_rule.specs.declared.view.View.{View}
use Rattle.erm_rule.specs.Steps.{Ready, Told}
use Rattle.erm_rule.specs.Views.{part_in, part_of, with_part}
use Rattle.erm_rule.proofs.Parts.{part_in-same, part_in-other, with_part-again}

held_by : (o : Option Part) → is_vacant (unwrap_or o (fresh_part Vacant 0 0)).place ≡ false → o ≡ Some (unwrap_or o (fresh_part Vacant 0 0))
held_by None e = absurd (cc)
held_by (Some x) e = refl

-- a seat whose part isn't vacant is one of the view's
pub held_part : (v : View) (who : ℕ) → is_vacant (part_of v who).place ≡ false → part_in v who ≡ Some (part_of v who)
held_part v who e = held_by (part_in v who) e

pub is_held : (v : View) (who : ℕ) (x : Part) → part_in v who ≡ Some x → IsSome (part_in v who)
is_held v who x has = ap (λ (o : Option Part). is_some o) has

-- the seat is ready where its part's guard is met, whatever word is found and whatever is shared
pub ready_by : (v : View) (who : ℕ) (k : Kind) (x : Part) → part_in v who ≡ Some x → ((c : Core) → Sound c → c.seats who ≡ x → IsSome (part_after who k (word_at c (spot_of who k)) c.shared x)) → Ready v who k
ready_by v who k x has met c sound sees =
    let is : c.seats who ≡ x = sees who x has in
    subst (λ (z : Part). IsSome (part_after who k (word_at c (spot_of who k)) c.shared z)) (sym is) (met c sound is)

-- the seat's part in the state before
pub told_before : (v : View) (who : ℕ) (k : Kind) (found : ℕ) (w : View) (x : Part) (told : Told v who k found w) → part_in v who ≡ Some x → told.before.seats who ≡ x
told_before v who k found w x told has = told.is_view who x has

-- The view after a step is the one before with the seat's part y, where the part after can be no other. The view before may be
-- itself one with an earlier part set.
pub told_after : (v : View) (who : ℕ) (k : Kind) (found : ℕ) (u w : View) (x old y : Part) → part_in v who ≡ Some old → u ≡ with_part who x v → (told : Told u who k found w) →
    ((s : Shared) (z : Part) → part_after who k found s x ≡ Some z → z ≡ y) → w ≡ with_part who y v
told_after v who k found u w x old y has is told only =
    let here : part_in u who ≡ Some x = subst (λ (t : View). part_in t who ≡ Some x) (sym is) (part_in-same v who old x has) in
    let before : told.before.seats who ≡ x = told.is_view who x here in
    let part : told.part ≡ y = only told.before.shared told.part (subst (λ (z : Part). part_after who k found told.before.shared z ≡ Some told.part) before told.part_is) in
    told.view_is ∙ ap (λ (z : Part). with_part who z u) part ∙ ap (λ (t : View). with_part who y t) is ∙ with_part-again who x y v

-- a part of a changed view
pub changed_here : (v : View) (who : ℕ) (u : View) (x old : Part) → part_in v who ≡ Some old → u ≡ with_part who x v → part_in u who ≡ Some x
changed_here v who u x old has is = subst (λ (t : View). part_in t who ≡ Some x) (sym is) (part_in-same v who old x has)

pub changed_other : (v : View) (who q : ℕ) (u : View) (x z : Part) → q ≢ who → u ≡ with_part who x v → part_in v q ≡ Some z → part_in u q ≡ Some z
changed_other v who q u x z ne is has = ap (λ (t : View). part_in t q) is ∙ part_in-other v who q x ne ∙ has

-- the first step on a view
pub told_first : (v : View) (who : ℕ) (k : Kind) (found : ℕ) (w : View) (x y : Part) → part_in v who ≡ Some x → (told : Told v who k found w) →
    ((s : Shared) (z : Part) → part_after who k found s x ≡ Some z → z ≡ y) → w ≡ with_part who y v
told_first v who k found w x y has told only =
    let before : told.before.seats who ≡ x = told.is_view who x has in
    let part : told.part ≡ y = only told.before.shared told.part (subst (λ (z : Part). part_after who k found told.before.shared z ≡ Some told.part) before told.part_is) in
    told.view_is ∙ ap (λ (z : Part). with_part who z v) part

pub part_of-changed : (v : View) (who : ℕ) (u : View) (x old : Part) → part_in v who ≡ Some old → u ≡ with_part who x v → part_of u who ≡ x
part_of-changed v who u x old has is = ap (λ (o : Option Part). unwrap_or o (fresh_part Vacant 0 0)) (changed_here v who u x old has is)
