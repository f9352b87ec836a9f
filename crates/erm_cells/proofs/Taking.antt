-- Taking an entry by an exchange.
use Rattle.std.proofs.Common.{◌≡◌, ◌≢◌, ℕ, ◌<◌, Bool, true, ◌++◌, ◌∷◌, [], length, Some, refl, sym, ap, ◌∙◌, subst, eqb}
use Rattle.std.specs.Prelude.{if◌then◌else◌}
use Rattle.std.proofs.lemmas.Bool.{eq-eqb, ne_eqb, lt-ltb}
use Rattle.erm_machine.specs.declared.event.Kind.TheVariants as kind
use Rattle.erm_machine.specs.declared.limits.TheConstants.{OBJECT_LIMIT, WRITE_LIMIT}
use Rattle.erm_machine.specs.declared.part.Part.{Part}
use Rattle.erm_machine.specs.declared.task.Task.{Task}
use Rattle.erm_machine.specs.declared.task.Task.TheVariants as task
use Rattle.erm_machine.specs.declared.version.VersionAt.{VersionAt}
use Rattle.erm_machine.specs.Chains.{HeadInHand, IsHead}
use Rattle.erm_machine.specs.Core.{Core, Object, Shared, version_at}
use Rattle.erm_machine.specs.Reading.{lost, new_claim, claim}
use Rattle.erm_machine.specs.Seat.{is_active}
use Rattle.erm_machine.specs.Step.{part_after, stored}
use Rattle.erm_machine.specs.Words.{claimed, head_of, is_session}
use Rattle.erm_machine.proofs.Frames.{put_same}
use Rattle.erm_rule.specs.declared.view.View.{View}
use Rattle.erm_rule.specs.Steps.{Ready, Told}
use Rattle.erm_rule.specs.Views.{part_of, with_part}
use Rattle.erm_cells.specs.Calls.{IsFoundHead, DidLose, DidTake}
use Rattle.erm_cells.proofs.After.{after_known, after_is}
use Rattle.erm_cells.proofs.Heads.{has}
use Rattle.erm_cells.proofs.Views.{when_true, both, ready_at, told_is}

-- the head that was found
pub record FoundHead (t : Task) (oid seen : ℕ) : Type 0 where
  pub version : VersionAt
  pub stamp : ℕ
  pub is : t ≡ task.Found version stamp (Some seen)
  pub oid_is : version.oid ≡ oid

found_head : (t : Task) (oid seen : ℕ) → IsFoundHead t oid seen → FoundHead t oid seen
found_head (task.Found version stamp (Some entry)) oid seen h = record { version = version; stamp = stamp; is = ap (λ n. task.Found version stamp (Some n)) h.1; oid_is = h.0 }
found_head _ oid seen h = absurd h

-- the part after the exchange, which found the entry seen or another
abbrev exchanged : ℕ → ℕ → ℕ → Object → VersionAt → ℕ → Bool → Part → Part
exchanged who oid found o version stamp same x = record x {
  task = if same then task.Claimed version else lost who oid found version o;
  current = record x.current { writes = if same then x.current.writes ++ new_claim version stamp (version_at o version.place).words.row ∷ [] else x.current.writes };
}

module _ (v : View) (who : ℕ) (active : is_active (part_of v who).place ≡ true) (session : is_session who ≡ true) (oid seen number : ℕ)
    (numbered : (part_of v who).current.number ≡ number) (room : length (part_of v who).current.writes < WRITE_LIMIT) (found : IsFoundHead (part_of v who).task oid seen) where
  abbrev x : Part
  x = part_of v who

  head : FoundHead x.task oid seen
  head = found_head x.task oid seen found

  after_claim : (entry : ℕ) (s : Shared) → part_after who (kind.Claim oid seen number) entry s x ≡ Some (exchanged who oid entry (s.objects oid) head.version head.stamp (eqb entry seen) x)
  after_claim entry s =
      subst (λ (t : Task). claim who oid seen number entry (s.objects oid) x t ≡ Some (exchanged who oid entry (s.objects oid) head.version head.stamp (eqb entry seen) x)) (sym head.is)
      (when_true _ (exchanged who oid entry (s.objects oid) head.version head.stamp (eqb entry seen) x)
      (both _ _ (both _ _ (both _ _ (both _ _ (both _ _ active session) (eq-eqb oid head.version.oid (sym head.oid_is))) (eq-eqb seen seen refl)) (eq-eqb number x.current.number (sym numbered)))
      (lt-ltb _ _ room)))

  pub ready_claim : Ready v who (kind.Claim oid seen number)
  ready_claim =
      ready_at v who (kind.Claim oid seen number) x (has v who active) (λ c. exchanged who oid (c.shared.objects oid).entry (c.shared.objects oid) head.version head.stamp (eqb (c.shared.objects oid).entry seen) x)
      (λ c sound. after_claim (c.shared.objects oid).entry c.shared)

  module _ (entry : ℕ) (w : View) (told : Told v who (kind.Claim oid seen number) entry w) where
    abbrev o : Object
    o = told.before.shared.objects oid

    exchanged_is : w ≡ with_part who (exchanged who oid entry o head.version head.stamp (eqb entry seen) x) v
    exchanged_is =
        told_is v who (kind.Claim oid seen number) entry w x (exchanged who oid entry o head.version head.stamp (eqb entry seen) x) (has v who active) told (after_claim entry told.before.shared)

    entry_stored : oid < OBJECT_LIMIT → (told.after.shared.objects oid).entry ≡ stored who (kind.Claim oid seen number) o.entry
    entry_stored known =
        ap (λ (c : Core). (c.shared.objects oid).entry) (sym (after_is v who (kind.Claim oid seen number) entry w told (lt-ltb oid OBJECT_LIMIT known)))
        ∙ ap (λ (z : Object). z.entry) (put_same told.before.shared.objects oid _)

    entry_after : oid < OBJECT_LIMIT → entry ≡ seen → (told.after.shared.objects oid).entry ≡ claimed seen who x.current.number
    entry_after known same =
        let became : stored who (kind.Claim oid seen number) o.entry ≡ claimed seen who number =
        ap (λ (b : Bool). if b then claimed seen who number else o.entry) (eq-eqb o.entry seen (told.met ∙ same)) in
        entry_stored known ∙ became ∙ ap (claimed seen who) (sym numbered)

    entry_left : oid < OBJECT_LIMIT → entry ≢ seen → (told.after.shared.objects oid).entry ≡ entry
    entry_left known other =
        entry_stored known ∙ ap (λ (b : Bool). if b then claimed seen who number else o.entry) (ne_eqb o.entry seen (λ same. other (sym told.met ∙ same))) ∙ told.met

    pub did_take : oid < OBJECT_LIMIT → entry ≡ seen → DidTake v who oid seen w
    did_take known same = record {
      version = head.version;
      stamp = head.stamp;
      base = (version_at o head.version.place).words.row;
      found = head.is;
      oid_is = head.oid_is;
      view_is = exchanged_is ∙ ap (λ (b : Bool). with_part who (exchanged who oid entry o head.version head.stamp b x) v) (eq-eqb entry seen same);
      known = after_known v who (kind.Claim oid seen number) entry w told;
      entry = entry_after known same;
    }

    head_is : head.version.cell ≡ head_of seen
    head_is =
        let here : told.before.seats who ≡ x = told.is_view who x (has v who active) in
        let hand : HeadInHand told.before.shared x.task = subst (λ (z : Part). HeadInHand told.before.shared z.task) here (told.sound.own who).chains.head in
        let is : IsHead (told.before.shared.objects head.version.oid) head.version (Some seen) = subst (HeadInHand told.before.shared) head.is hand in
        is.1

    pub did_lose : oid < OBJECT_LIMIT → entry ≢ seen → DidLose v who oid seen entry w
    did_lose known other = record {
      version = head.version;
      stamp = head.stamp;
      object = o;
      found = head.is;
      cell_is = head_is;
      view_is = exchanged_is ∙ ap (λ (b : Bool). with_part who (exchanged who oid entry o head.version head.stamp b x) v) (ne_eqb entry seen other);
      known = after_known v who (kind.Claim oid seen number) entry w told;
      met = entry_left known other;
    }
