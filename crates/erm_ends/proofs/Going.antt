-- An end goes on from step to step.
use Rattle.std.proofs.Common.{◌≡◌, ℕ, ◌<◌, true, false, ◌||◌, length, Some, refl, sym, ap, ◌∙◌, subst}
use Rattle.erm_machine.specs.declared.limits.TheConstants.{OBJECT_LIMIT}
use Rattle.erm_machine.specs.declared.part.Part.{Part}
use Rattle.erm_machine.specs.declared.place.Place.{Place}
use Rattle.erm_machine.specs.declared.place.Place.TheVariants.{Active, Decided}
use Rattle.erm_machine.specs.Core.{claim_at}
use Rattle.erm_machine.specs.Seat.{end_of, is_active, is_decided, is_vacant, with_task}
use Rattle.erm_rule.specs.declared.view.View.{View}
use Rattle.erm_rule.specs.Hands.{IsKnown}
use Rattle.erm_rule.specs.Views.{part_in, part_of, with_part}
use Rattle.erm_rule.proofs.Parts.{with_part-again, with_part-same}
use Rattle.erm_rule.proofs.Telling.{part_of-changed}
use Rattle.erm_ends.specs.Ends.{HasCome}

-- a seat that ends isn't vacant
pub ending_taken : (pl : Place) → (is_decided pl || is_active pl) ≡ true → is_vacant pl ≡ false
ending_taken (Decided tail stamp) e = refl
ending_taken (Active tail) e = refl
ending_taken _ e = absurd (cc)

-- a change of the seat's part, after another
pub chain : (v : View) (who : ℕ) (u w : View) (x y : Part) (f : Part → Part) → part_in v who ≡ Some x → u ≡ with_part who y v → w ≡ with_part who (f (part_of u who)) u → w ≡ with_part who (f y) v
chain v who u w x y f has is then =
    then ∙ ap (λ (z : Part). with_part who (f z) u) (part_of-changed v who u y x has is) ∙ ap (λ (t : View). with_part who (f y) t) is ∙ with_part-again who y (f y) v

-- where an end begins
pub starts_there : (v : View) (who : ℕ) (e : ℕ × ℕ × ℕ × ℕ) → part_in v who ≡ Some (part_of v who) → IsKnown v → end_of (part_of v who).task ≡ Some e → HasCome v who (part_of v who) e v
starts_there v who e has known ends = record {
  task = (part_of v who).task;
  ends = ends;
  view_is = sym (with_part-same who (part_of v who) v known.in_order has);
  known = known;
}

module _ (v : View) (who : ℕ) (x y : Part) (e : ℕ × ℕ × ℕ × ℕ) (u : View) (has : part_in v who ≡ Some x) (come : HasCome v who y e u) where
  pub come_part : part_of u who ≡ with_task come.task y
  come_part = part_of-changed v who u (with_task come.task y) x has come.view_is

  pub come_ends : end_of (part_of u who).task ≡ Some e
  come_ends = ap (λ (z : Part). end_of z.task) come_part ∙ come.ends

  -- an end of another goes on from there
  pub come_on : (f : ℕ × ℕ × ℕ × ℕ) (w : View) → HasCome u who (part_of u who) f w → HasCome v who y f w
  come_on f w then = record {
    task = then.task;
    ends = then.ends;
    view_is = chain v who u w x (with_task come.task y) (with_task then.task) has come.view_is then.view_is;
    known = then.known;
  }

-- the objects of claims are there
pub claim_object : (v : View) (who : ℕ) (known : IsKnown v) → part_in v who ≡ Some (part_of v who) → (k : ℕ) → k < length (part_of v who).current.writes → (claim_at (part_of v who).current k).version.oid < OBJECT_LIMIT
claim_object v who known has k within =
    let there : known.core.seats who ≡ part_of v who = known.is_view who (part_of v who) has in
    subst (λ (z : Part). (claim_at z.current k).version.oid < OBJECT_LIMIT) there
    ((known.sound.own who).claims.objects k (subst (λ (z : Part). k < length z.current.writes) (sym there) within))
