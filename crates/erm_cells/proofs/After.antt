-- The state that a step is told to have led to.
use Rattle.std.proofs.Common.{◌≡◌, ℕ, ◌<◌, true, Some, sym, ap, ◌∙◌, subst}
use Rattle.std.proofs.lemmas.Bool.{lt-ltb}
use Rattle.std.proofs.lemmas.Option.{same_Some}
use Rattle.erm_machine.specs.declared.event.Kind.{Kind}
use Rattle.erm_machine.specs.declared.event.Kind.TheVariants as kind
use Rattle.erm_machine.specs.declared.limits.TheConstants.{OBJECT_LIMIT}
use Rattle.erm_machine.specs.Core.{Core}
use Rattle.erm_machine.specs.Step.{is_known, part_after}
use Rattle.erm_rule.specs.declared.view.View.{View}
use Rattle.erm_rule.specs.Hands.{IsKnown}
use Rattle.erm_rule.specs.Steps.{Told}
use Rattle.erm_rule.proofs.Found.{next, event_is}
use Rattle.erm_rule.proofs.Numbered.{known_after}

module _ (v : View) (who : ℕ) (k : Kind) (found : ℕ) (w : View) (told : Told v who k found w) where
  abbrev pub after_known : IsKnown w
  after_known = record {
    core = told.after;
    sound = told.sound_after;
    cuts = told.cuts_after;
    is_view = told.is_view_after;
    limit = told.limit_after;
    in_order = (known_after v who k found w told).in_order;
  }

  pub after_is : is_known k ≡ true → next told.before who k told.part ≡ told.after
  after_is known =
      let part = subst (λ (n : ℕ). part_after who k n told.before.shared (told.before.seats who) ≡ Some told.part) (sym told.met) told.part_is in
      same_Some _ _ (sym (event_is told.before who k told.part known part) ∙ told.event)

-- a load of an entry leaves it
pub entry_still : (v : View) (who oid entry : ℕ) (w : View) (told : Told v who (kind.LoadEntry oid) entry w) → oid < OBJECT_LIMIT → (told.after.shared.objects oid).entry ≡ entry
entry_still v who oid entry w told known =
    ap (λ (c : Core). (c.shared.objects oid).entry) (sym (after_is v who (kind.LoadEntry oid) entry w told (lt-ltb oid OBJECT_LIMIT known))) ∙ told.met
