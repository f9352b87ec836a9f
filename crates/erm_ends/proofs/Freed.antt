-- A release is pinned to its step.
use Rattle.std.proofs.Common.{◌≡◌, ℕ, ◌<◌, ◌≤◌, Bool, true, ◌||◌, length, Option, Some, None, refl, sym, ap, ◌∙◌, subst, arith}
use Rattle.std.specs.Prelude.{if◌then◌else◌, nat_lt, unwrap_or}
use Rattle.erm_machine.specs.declared.attempt.Claim.{Claim}
use Rattle.erm_machine.specs.declared.event.Kind.TheVariants as kind
use Rattle.erm_machine.specs.declared.limits.TheConstants.{OBJECT_LIMIT}
use Rattle.erm_machine.specs.declared.part.Part.{Part}
use Rattle.erm_machine.specs.declared.place.Place.{Place}
use Rattle.erm_machine.specs.declared.place.Place.TheVariants.{Active, Decided}
use Rattle.erm_machine.specs.declared.task.Task.{Task}
use Rattle.erm_machine.specs.declared.task.Task.TheVariants as task
use Rattle.erm_machine.specs.declared.version.Version.{Version}
use Rattle.erm_machine.specs.Claims.{ClaimFits, OwnClaims}
use Rattle.erm_machine.specs.Core.{Core, Object, claim_at, newest, own_words, version_at}
use Rattle.erm_machine.specs.Facts.{over_of}
use Rattle.erm_machine.specs.Seat.{end_of, is_active, is_decided}
use Rattle.erm_machine.specs.Sound.{Sound}
use Rattle.erm_machine.specs.Step.{added, after_event, installed}
use Rattle.erm_machine.specs.Words.{head_of, number_of, owner_of}
use Rattle.erm_model.specs.RowTransaction.{Law}
use Rattle.erm_rule.specs.declared.view.Book.{Book}
use Rattle.erm_rule.specs.Books.{IsBookOf, WasSeen}
use Rattle.erm_rule.specs.Steps.{Booked}
use Rattle.erm_rule.specs.Views.{IsView, part_in, part_of}
use Rattle.erm_rule.proofs.Telling.{held_part}
use Rattle.erm_entries.specs.Ends.{DidRelease, end_from, HasFreeHead, IsNextRelease, next_release}
use Rattle.erm_ends.specs.Took.{WasFreed}
use Rattle.erm_ends.proofs.Going.{ending_taken}
use Rattle.erm_ends.proofs.Left.{object_left, seen_left}

-- the next claim isn't over
over_at : (pl : Place) (t : Task) (writes : ℕ) → (is_decided pl || is_active pl) ≡ true → over_of pl t writes ≤ (unwrap_or (end_of t) (0, 0, 0, 0)).1
over_at (Decided tail stamp) (task.Ends raised ended step cleared) writes e = omega arith
over_at (Decided tail stamp) _ writes e = omega arith
over_at (Active tail) (task.Ends raised ended step cleared) writes e = omega arith
over_at (Active tail) _ writes e = omega arith
over_at _ t writes e = absurd (cc)

module _ (law : Law) (who : ℕ) (b e : Book) (oid head : ℕ) (next : IsNextRelease (part_of b.view who) oid head) (did : DidRelease b.view who oid head e.view) (found : ℕ)
    (booked : Booked law b who (kind.Install oid head) found e) where
  abbrev x : Part
  x = part_of b.view who

  abbrev w : Claim
  w = next_release x

  has : part_in b.view who ≡ Some x
  has = held_part b.view who (ending_taken x.place next.place)

  own : (c : Core) → Sound c → IsView b.view c → OwnClaims c.shared who x
  own c sound is = subst (λ (z : Part). OwnClaims c.shared who z) (is who x has) (sound.own who).claims

  -- in each state with the view's parts the entry is the claim's
  fits : (c : Core) → Sound c → IsView b.view c → ClaimFits who x.current.number x.current.begin (c.shared.objects w.version.oid) w
  fits c sound is = (own c sound is).fit (end_from x).1 next.within ((own c sound is).held (end_from x).1 next.within (over_at x.place x.task (length x.current.writes) next.place))

  none_added : (o : Option (ℕ × ℕ × ℕ × ℕ)) → added head x o ≡ None
  none_added None = refl
  none_added (Some f) = ap (λ (t : Bool). if t then Some (record { cell = head; words = own_words (claim_at x.current f.1).own }) else None) next.excluded

  left : (c d : Core) → IsBookOf b c → after_event c who (kind.Install oid head) ≡ Some d → HasFreeHead d oid head
  left c d is event =
      let same : c.seats who ≡ x = is.is_view who x has in
      let object : d.shared.objects oid ≡ record (c.shared.objects oid) { entry = head } =
      object_left c d who oid head (nat_lt oid OBJECT_LIMIT) _ event
      ∙ ap (λ (z : Part). installed head (added head z (end_of z.task)) (c.shared.objects oid)) same
      ∙ ap (λ (m : Option Version). installed head m (c.shared.objects oid)) (none_added (end_of x.task))
      in
      let fit = fits c is.sound is.is_view in
      let known : oid < OBJECT_LIMIT = subst (λ (n : ℕ). n < OBJECT_LIMIT) next.oid_is ((own c is.sound is.is_view).objects (end_from x).1 next.within) in
      record {
        entry = ap (λ (o : Object). o.entry) object;
        unowned = did.is_head.unowned;
        cell = ap (λ (o : Object). (version_at o (newest o)).cell) object
            ∙ sym (is.sound.common.claims.objects oid known).head
            ∙ sym (ap (λ (n : ℕ). head_of (c.shared.objects n).entry) next.oid_is)
            ∙ sym fit.cell ∙ next.cell_is;
      }

  pub was_freed : WasFreed law who x.current.number w.version b e
  was_freed =
      let told = booked.under.told in
      let fit = fits told.before told.sound told.is_view in
      let is : (told.before.shared.objects w.version.oid).entry ≡ found = ap (λ (n : ℕ). (told.before.shared.objects n).entry) next.oid_is ∙ told.met in
      record {
        found = found;
        entry = record { owner = ap owner_of (sym is) ∙ fit.owner; number_is = ap number_of (sym is) ∙ fit.numbered; head = ap head_of (sym is) ∙ sym fit.cell };
        step = subst (λ (n : ℕ). Booked law b who (kind.Install n w.version.cell) found e) (sym next.oid_is) (subst (λ (n : ℕ). Booked law b who (kind.Install oid n) found e) (sym next.cell_is) booked);
        freed = subst (λ (n : ℕ). WasSeen b (λ s. HasFreeHead s n w.version.cell) e) (sym next.oid_is)
            (subst (λ (n : ℕ). WasSeen b (λ s. HasFreeHead s oid n) e) (sym next.cell_is) (seen_left law b (λ s. HasFreeHead s oid head) who (kind.Install oid head) found e booked left));
      }
