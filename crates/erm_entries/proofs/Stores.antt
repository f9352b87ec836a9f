-- The store of an entry that ends a claim: an install, a release, and a claim given up.
use Rattle.std.proofs.Common.{◌≡◌, ℕ, ◌^◌, ◌<◌, ◌≤◌, length, Option, Some, None, refl, sym, ap, ◌∙◌, subst, arith}
use Rattle.std.proofs.lemmas.Bool.{lt-ltb}
use Rattle.std.proofs.lemmas.Option.{same_Some}
use Rattle.erm_machine.specs.declared.event.Kind.TheVariants as kind
use Rattle.erm_machine.specs.declared.limits.TheConstants.{OBJECT_LIMIT}
use Rattle.erm_machine.specs.declared.part.Part.{Part}
use Rattle.erm_machine.specs.declared.version.Version.{Version}
use Rattle.erm_machine.specs.Claims.{OwnClaims}
use Rattle.erm_machine.specs.Core.{Core, Object, claim_at}
use Rattle.erm_machine.specs.Facts.{over_of}
use Rattle.erm_machine.specs.Seat.{end_of}
use Rattle.erm_machine.specs.Sound.{Sound}
use Rattle.erm_machine.specs.Step.{part_after, added, installed}
use Rattle.erm_machine.specs.Words.{head_of, owner_of}
use Rattle.erm_machine.proofs.Frames.{put_same}
use Rattle.erm_rule.specs.declared.view.View.{View}
use Rattle.erm_rule.specs.Hands.{IsKnown}
use Rattle.erm_rule.specs.Steps.{Told}
use Rattle.erm_rule.specs.Views.{part_in}
use Rattle.erm_rule.proofs.Found.{next, event_is}
use Rattle.erm_rule.proofs.Numbered.{known_after}
use Rattle.erm_entries.specs.Ends.{HasFreeHead}

-- a cell of 24 bits is an entry without owner
small_head : (head : ℕ) → head < 2 ^ 24 → head_of head ≡ head
small_head head small = omega arith

small_owner : (head : ℕ) → head < 2 ^ 24 → owner_of head ≡ 0
small_owner head small = omega arith

head_small : (entry : ℕ) → head_of entry < 2 ^ 24
head_small entry = omega arith

entry_installed : (head : ℕ) (m : Option Version) (o : Object) → (installed head m o).entry ≡ head
entry_installed head None o = refl
entry_installed head (Some version) o = refl

-- a claim that isn't over overwrites a version in a cell of 24 bits
pub claim_small : (c : Core) (q : ℕ) (x : Part) → Sound c → c.seats q ≡ x → (k : ℕ) → k < length x.current.writes → over_of x.place x.task (length x.current.writes) ≤ k →
    (claim_at x.current k).version.cell < 2 ^ 24
claim_small c q x sound is k within left =
    let own : OwnClaims c.shared q x = subst (λ (z : Part). OwnClaims c.shared q z) is (sound.own q).claims in
    let at = (own.fit k within (own.held k within left)).cell in
    subst (λ n. n < 2 ^ 24) (sym at) (head_small (c.shared.objects (claim_at x.current k).version.oid).entry)

-- what the store leaves of the object
module _ (v : View) (who : ℕ) (x : Part) (has : part_in v who ≡ Some x) (oid head : ℕ) (known : oid < OBJECT_LIMIT) (found : ℕ) (w : View) (told : Told v who (kind.Install oid head) found w) where
  abbrev pub now_known : IsKnown w
  now_known = record {
    core = told.after;
    sound = told.sound_after;
    cuts = told.cuts_after;
    is_view = told.is_view_after;
    limit = told.limit_after;
    in_order = (known_after v who (kind.Install oid head) found w told).in_order;
  }

  before_is : told.before.seats who ≡ x
  before_is = told.is_view who x has

  abbrev old : Object
  old = told.before.shared.objects oid

  pub object_after : told.after.shared.objects oid ≡ installed head (added head x (end_of x.task)) old
  object_after =
      let part = subst (λ (n : ℕ). part_after who (kind.Install oid head) n told.before.shared (told.before.seats who) ≡ Some told.part) (sym told.met) told.part_is in
      let is : next told.before who (kind.Install oid head) told.part ≡ told.after =
      same_Some _ _ (sym (event_is told.before who (kind.Install oid head) told.part (lt-ltb oid OBJECT_LIMIT known) part) ∙ told.event) in
      let here : (next told.before who (kind.Install oid head) told.part).shared.objects oid ≡ installed head (added head (told.before.seats who) (end_of (told.before.seats who).task)) old =
      put_same told.before.shared.objects oid _ in
      ap (λ (c : Core). c.shared.objects oid) (sym is) ∙ here ∙ ap (λ (z : Part). installed head (added head z (end_of z.task)) old) before_is

  entry_after : (told.after.shared.objects oid).entry ≡ head
  entry_after = ap (λ (o : Object). o.entry) object_after ∙ entry_installed head (added head x (end_of x.task)) old

  pub free_head : head < 2 ^ 24 → HasFreeHead told.after oid head
  free_head small = record {
    entry = entry_after;
    unowned = small_owner head small;
    cell = sym (told.sound_after.common.claims.objects oid known).head ∙ ap head_of entry_after ∙ small_head head small;
  }
