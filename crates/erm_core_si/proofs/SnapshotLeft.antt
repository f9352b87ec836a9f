-- What a step leaves, and who holds an object.
use Rattle.std.proofs.Common.{◌≡◌, ℕ, ⊎_elim, true, ◌&&◌, eqb, Some, refl, sym, ap, ◌∙◌, subst, arith}
use Rattle.std.specs.Prelude.{if◌then◌else◌, not}
use Rattle.std.proofs.lemmas.Bool.{and_parts, eqb-true}
use Rattle.erm_model.specs.Member.{◌∈◌}
use Rattle.erm_model.proofs.Members.{none_in_nil}
use Rattle.erm_machine.specs.declared.attempt.Attempt.{Attempt}
use Rattle.erm_machine.specs.declared.attempt.Claim.{Claim}
use Rattle.erm_machine.specs.declared.event.Kind.{Kind}
use Rattle.erm_machine.specs.declared.part.Part.{Part}
use Rattle.erm_machine.specs.declared.place.Place.TheVariants.{Vacant}
use Rattle.erm_machine.specs.declared.task.Task.{Task}
use Rattle.erm_machine.specs.declared.task.Task.TheVariants as task
use Rattle.erm_machine.specs.declared.version.VersionAt.{VersionAt}
use Rattle.erm_machine.specs.Core.{Core, Object, spot_of, word_at, blank}
use Rattle.erm_machine.specs.Facts.{Holds, IsCurrent}
use Rattle.erm_machine.specs.Reading.{entered, head_version, lost}
use Rattle.erm_machine.specs.Seat.{same_version}
use Rattle.erm_machine.specs.Sound.{Sound}
use Rattle.erm_machine.specs.Step.{shared_after}
use Rattle.erm_machine.specs.Words.{head_of, owner_of, is_seat}
use Rattle.erm_machine.proofs.Guards.{either_way}
use Rattle.erm_machine.proofs.Holders.{owner_holds}
use Rattle.erm_machine.proofs.QuietKinds.{Moves}
use Rattle.erm_core_si.proofs.SnapshotSteps.{Kept, Covers, Hand, Settle, Recalls, Claiming, kept_from}
use Rattle.erm_core_si.proofs.SnapshotClaims.{claiming_known}
use Rattle.erm_core_si.proofs.SnapshotSame.{Free, free_from, Same, covers_same, recalls_same, free_hand, Unsettled, unsettled, hand_same, settle_same}
use Rattle.erm_core_si.proofs.SnapshotCalm.{Calm, same_current}
use Rattle.erm_core_si.proofs.SnapshotGrown.{grown}

-- what a step of a seat leaves of its part
pub record Left (c : Core) (p : ℕ) (y : Part) : Type 0 where
  pub covers : Covers c.shared.tail (c.seats p) y
  pub recalls : Recalls c p y
  pub claims : Claiming c p y
  pub hand : Hand c p y.current.begin y.task
  pub settle : Settle c p y

pub left_same : (c : Core) (p : ℕ) (y : Part) → Sound c → Same (c.seats p) y → Hand c p y.current.begin y.task → Settle c p y → Left c p y
left_same c p y sound same hand settle = record {
  covers = covers_same c.shared.tail (c.seats p) y same;
  recalls = recalls_same c p y sound same;
  claims = claiming_known c p y sound same.over same.begin same.claims.known;
  hand = hand;
  settle = settle;
}

-- a calm step
pub left_calm : (c : Core) (p : ℕ) (y : Part) → Sound c → Calm (c.seats p) (c.seats p).task y → Left c p y
left_calm c p y sound calm =
    ⊎_elim
    (λ (free : Free y.task). left_same c p y sound calm.same (free_hand c p y.current.begin y.task free) (unsettled c p y free.settled))
    (λ (stays : y.task ≡ (c.seats p).task).
    left_same c p y sound calm.same
    (subst (λ n. Hand c p n y.task) (sym calm.same.begin) (subst (λ (u : Task). Hand c p (c.seats p).current.begin u) (sym stays) (hand_same c p sound)))
    (settle_same c p y sound calm.same stays))
    calm.task

-- the law after a step
pub kept_moves : (c : Core) (p : ℕ) (k : Kind) (d : Core) → Sound c → (m : Moves c p k d) → Left c p m.part → Kept d
kept_moves c p k d sound m left =
    kept_from c p m.part (shared_after p k (word_at c (spot_of p k)) (c.seats p) c.shared) d sound (grown c p k d sound m) left.covers left.recalls left.claims left.hand left.settle (sym m.is)

-- the task alone changes, outside of settle
pub left_task : (c : Core) (p : ℕ) (u : Task) → Sound c → Hand c p (c.seats p).current.begin u → Unsettled u → Left c p (record (c.seats p) { task = u })
left_task c p u sound hand f = left_same c p _ sound (same_current (c.seats p) _ refl refl) hand (unsettled c p _ f)

-- seat 0 holds nothing
seat_zero : (c : Core) (q : ℕ) → Sound c → q ≡ 0 → (c.seats q).place ≡ Vacant
seat_zero c q sound e = (sound.own q).ranges.seat_of (ap is_seat e)

pub zero_holds : (c : Core) (q : ℕ) → Sound c → q ≡ 0 → (w : Claim) → w ∈ (c.seats q).current.writes → ⊥
zero_holds c q sound e w m =
    let current : (c.seats q).current ≡ blank = subst (λ pl. IsCurrent pl (c.seats q).current) (seat_zero c q sound e) (sound.own q).ranges.current in
    none_in_nil w (subst (λ (t : Attempt). w ∈ t.writes) current m)

-- nobody holds an object whose entry has no owner
pub unowned : (c : Core) (q oid : ℕ) → Sound c → owner_of (c.shared.objects oid).entry ≡ 0 → Holds (c.seats q) oid → ⊥
unowned c q oid sound none h = zero_holds c q sound (sym (owner_holds c q oid sound h) ∙ none) h.0 h.1

-- two names of one version
pub same_place : (v w : VersionAt) → same_version v w ≡ true → (v.oid ≡ w.oid) × (v.place ≡ w.place)
same_place v w e = let parts = and_parts _ _ (and_parts _ _ e).0 in (eqb-true v.oid w.oid parts.0, eqb-true v.place w.place parts.1)

-- an entry was loaded
entered_at : (P : Task → Type 0) (p oid entry : ℕ) (o : Object) → (owner_of entry ≡ 0 → P (task.Walks (head_version oid entry o) (Some entry))) →
    P (task.Claimed (head_version oid entry o)) → P (task.Owned oid (owner_of entry)) → P (entered p oid entry o)
entered_at P p oid entry o free own other =
    either_way P (eqb (owner_of entry) 0) (task.Walks (head_version oid entry o) (Some entry)) (if eqb (owner_of entry) p then task.Claimed (head_version oid entry o) else task.Owned oid (owner_of entry))
    (λ e. free (eqb-true (owner_of entry) 0 e))
    (λ _. either_way P (eqb (owner_of entry) p) (task.Claimed (head_version oid entry o)) (task.Owned oid (owner_of entry)) (λ _. own) (λ _. other))

pub hand_entered : (c : Core) (p begin oid : ℕ) → Sound c → Hand c p begin (entered p oid (c.shared.objects oid).entry (c.shared.objects oid))
hand_entered c p begin oid sound =
    entered_at (Hand c p begin) p oid (c.shared.objects oid).entry (c.shared.objects oid)
    (λ none. record {
      in_hand = λ k above within. absurd (omega (arith, above, within));
      within = tt;
      none = λ q _ h. unowned c q oid sound none h.2;
    })
    (free_hand c p begin _ (free_from _ tt tt))
    (record { in_hand = tt; within = tt; none = λ q _ ne h. ne (sym (owner_holds c q oid sound h.2)) })

pub unsettled_entered : (p oid entry : ℕ) (o : Object) → Unsettled (entered p oid entry o)
unsettled_entered p oid entry o = entered_at Unsettled p oid entry o (λ _. tt) tt tt

pub unsettled_lost : (p oid entry : ℕ) (v : VersionAt) (o : Object) → Unsettled (lost p oid entry v o)
unsettled_lost p oid entry v o =
    either_way Unsettled (eqb (owner_of entry) 0 && not (eqb (head_of entry) v.cell)) (task.Passed (head_version oid entry o)) (entered p oid entry o) (λ _. tt) (λ _. unsettled_entered p oid entry o)
