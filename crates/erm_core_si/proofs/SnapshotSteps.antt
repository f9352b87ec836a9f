-- A step and what was read: what a step leaves of objects, of its seat's claims, and of what its seat reads.
use Rattle.std.proofs.Common.{◌≡◌, ◌≢◌, ℕ, ◌<◌, ◌≤◌, ⊎_elim, true, length, refl, ap, ◌∙◌, subst, arith}
use Rattle.std.proofs.lemmas.Bool.{cases_lt}
use Rattle.erm_model.specs.Member.{◌∈◌}
use Rattle.erm_machine.specs.declared.attempt.Attempt.{Attempt}
use Rattle.erm_machine.specs.declared.attempt.Claim.{Claim}
use Rattle.erm_machine.specs.declared.attempt.Read.{Read}
use Rattle.erm_machine.specs.declared.part.Part.{Part}
use Rattle.erm_machine.specs.declared.place.Place.{Place}
use Rattle.erm_machine.specs.declared.place.Place.TheVariants.{Vacant, Idle, Begun, Announced, Active, Sealing, Drawn, Sealed, Decided, Leaving}
use Rattle.erm_machine.specs.declared.task.Task.{Task}
use Rattle.erm_machine.specs.declared.task.Task.TheVariants as task
use Rattle.erm_machine.specs.declared.version.VersionAt.{VersionAt}
use Rattle.erm_machine.specs.Begins.{BeginsAt}
use Rattle.erm_machine.specs.Chains.{IsNamed, NamedInHand}
use Rattle.erm_machine.specs.Core.{Core, Shared, version_at}
use Rattle.erm_machine.specs.Facts.{all_of, Holds, HoldsBelow, IsCurrent}
use Rattle.erm_machine.specs.Seat.{read_at}
use Rattle.erm_machine.specs.Snapshot.{NewerFrom, IsNewestAt, ReadFits, InHand, ClaimStays, OwnSnapshot, NoneInHand, Overwriting, passed_of, NoneLeft, Snapshot}
use Rattle.erm_machine.specs.Sound.{Sound}
use Rattle.erm_machine.specs.Words.{put}
use Rattle.erm_machine.proofs.Frames.{each_seat, each_two}
use Rattle.erm_machine.proofs.Objects.{Extends}
use Rattle.erm_core_si.proofs.SnapshotLists.{∈-last}

-- what the law says of a state
pub record Kept (d : Core) : Type 0 where
  pub own : (p : ℕ) → OwnSnapshot d.shared (d.seats p)
  pub both : (p q : ℕ) → p ≢ q → Snapshot (d.seats p) q (d.seats q)

-- a new version's stamp is that of a range whose transaction claimed the object
pub record NewOf (x : Part) (oid stamp : ℕ) : Type 0 where
  pub positive : 0 < x.current.stamp
  pub stamp_is : stamp ≡ x.current.stamp
  pub holds : Holds x oid

-- what a seat's step leaves of what is shared: versions stay, and a new one is of a claim that the seat held
pub record Grown (s t : Shared) (x : Part) : Type 0 where
  pub tail : s.tail ≤ t.tail
  pub extends : (oid : ℕ) → Extends (s.objects oid) (t.objects oid)
  pub new : (oid k : ℕ) → length (s.objects oid).versions ≤ k → k < length (t.objects oid).versions → NewOf x oid (version_at (t.objects oid) k).words.stamp

-- a number that isn't below a bound
not_below : (stamp bound : ℕ) → (stamp < bound → ⊥) → bound ≤ stamp
not_below stamp bound f = ⊎_elim (λ (low : stamp < bound). absurd (f low)) (λ (high : bound ≤ stamp). high) (cases_lt stamp bound)

module _ (s t : Shared) (x : Part) (g : Grown s t x) where
  newer_stays : (oid place bound : ℕ) → (HoldsBelow x oid bound → ⊥) → NewerFrom (s.objects oid) place bound → NewerFrom (t.objects oid) place bound
  newer_stays oid place bound none newer = λ k above within.
      ⊎_elim
      (λ (old : k < length (s.objects oid).versions). let e = (g.extends oid).stamp k old in let h = newer k above old in omega (arith, e, h))
      (λ (late : length (s.objects oid).versions ≤ k).
      let n = g.new oid k late within in
      let is = n.stamp_is in
      not_below (version_at (t.objects oid) k).words.stamp bound (λ (low : (version_at (t.objects oid) k).words.stamp < bound). none (n.positive, omega (arith, low, is), n.holds)))
      (cases_lt k (length (s.objects oid).versions))

  named_stays : (v : VersionAt) → IsNamed s v → IsNamed t v
  named_stays v n = record {
    object = n.object;
    within = let a = n.within in let b = (g.extends v.oid).grows in omega (arith, a, b);
    cell = (g.extends v.oid).cell v.place n.within ∙ n.cell;
  }

  newest_stays : (oid place bound stamp : ℕ) → (HoldsBelow x oid bound → ⊥) → IsNewestAt (s.objects oid) place bound stamp → IsNewestAt (t.objects oid) place bound stamp
  newest_stays oid place bound stamp none n = record {
    within = let a = n.within in let b = (g.extends oid).grows in omega (arith, a, b);
    stamp_is = (g.extends oid).stamp place n.within ∙ n.stamp_is;
    below = n.below;
    newer = newer_stays oid place bound none n.newer;
  }

  fits_stays : (begin : ℕ) (r : Read) → (HoldsBelow x r.version.oid begin → ⊥) → ReadFits s begin r → ReadFits t begin r
  fits_stays begin r none f = record {
    named = named_stays r.version f.named;
    newest = newest_stays r.version.oid r.version.place begin r.stamp none f.newest;
    row = (g.extends r.version.oid).row r.version.place f.newest.within ∙ f.row;
  }

-- the version that was passed is one of its object's
abbrev pub HandWithin : Shared → Task → Type 0
HandWithin s (task.Passed version) = version.place < length (s.objects version.oid).versions
HandWithin s (task.SafePassed version) = version.place < length (s.objects version.oid).versions
HandWithin s _ = Unit {0}

pub named_within : (s : Shared) (u : Task) → NamedInHand s u → HandWithin s u
named_within s (task.Passed version) n = n.within
named_within s (task.SafePassed version) n = n.within
named_within s _ n = tt

hand_stays : (s t : Shared) (p : ℕ) (x : Part) (begin : ℕ) (u : Task) → Grown s t x → HandWithin s u → NoneInHand begin u p x → InHand s begin u → InHand t begin u
hand_stays s t p x begin (task.Walks version head) g w none h = newer_stays s t x g version.oid version.place begin none h
hand_stays s t p x begin (task.Passed version) g w none h =
    let e = (g.extends version.oid).stamp version.place w in
    let a = h.1 in
    (newer_stays s t x g version.oid version.place begin none h.0, omega (arith, e, a))
hand_stays s t p x begin (task.Found version stamp head) g w none h = newest_stays s t x g version.oid version.place begin stamp none h
hand_stays s t p x begin (task.SafeWalks version) g w none h = newer_stays s t x g version.oid version.place begin none h
hand_stays s t p x begin (task.SafePassed version) g w none h =
    let e = (g.extends version.oid).stamp version.place w in
    let a = h.1 in
    (newer_stays s t x g version.oid version.place begin none h.0, omega (arith, e, a))
hand_stays s t p x begin (task.SafeFound version) g w none h =
    let stays = newest_stays s t x g version.oid version.place begin (version_at (s.objects version.oid) version.place).words.stamp none h in
    let e = stays.stamp_is in
    let low = stays.below in
    record { within = stays.within; stamp_is = refl; below = omega (arith, e, low); newer = stays.newer }
hand_stays s t p x begin _ g w none h = tt

-- a seat that holds no claim below a bound holds none in hand
pub none_holds : (begin : ℕ) (u : Task) (q : ℕ) (y : Part) → ((oid : ℕ) → HoldsBelow y oid begin → ⊥) → NoneInHand begin u q y
none_holds begin (task.Owned oid owner) q y none = λ _. none oid
none_holds begin (task.Cleared oid) q y none = none oid
none_holds begin (task.Walks version head) q y none = none version.oid
none_holds begin (task.Passed version) q y none = none version.oid
none_holds begin (task.Found version stamp head) q y none = none version.oid
none_holds begin (task.SafeWalks version) q y none = none version.oid
none_holds begin (task.SafePassed version) q y none = none version.oid
none_holds begin (task.SafeFound version) q y none = none version.oid
none_holds begin _ q y none = tt

-- a held claim that stood before, on the same version
pub record HeldBefore (x : Part) (w : Claim) : Type 0 where
  pub claim : Claim
  pub stands : claim ∈ x.current.writes
  pub held : claim.held ≡ true
  pub version : claim.version ≡ w.version

-- a seat's step adds no held claim to a range below the tail
pub record Covers (now : ℕ) (x y : Part) : Type 0 where
  pub stamp : 0 < y.current.stamp → y.current.stamp < now → y.current.stamp ≡ x.current.stamp
  pub claims : 0 < y.current.stamp → y.current.stamp < now → (w : Claim) → w ∈ y.current.writes → w.held ≡ true → HeldBefore x w

module _ (now : ℕ) (x y : Part) (covers : Covers now x y) where
  held_covered : (oid bound : ℕ) → bound ≤ now → HoldsBelow y oid bound → HoldsBelow x oid bound
  held_covered oid bound past h =
      let positive = h.0 in
      let low = h.1 in
      let below : y.current.stamp < now = omega (arith, low, past) in
      let e = covers.stamp positive below in
      let b = covers.claims positive below h.2.0 h.2.1 h.2.2 in
      (omega (arith, positive, e), omega (arith, low, e), (b.claim, b.stands, b.held, ap (λ (v : VersionAt). v.oid) b.version ∙ h.2.3))

  over_covered : (v : VersionAt) (bound : ℕ) → bound ≤ now → Overwriting y v bound → Overwriting x v bound
  over_covered v bound past h =
      let positive = h.0 in
      let low = h.1 in
      let below : y.current.stamp < now = omega (arith, low, past) in
      let e = covers.stamp positive below in
      let b = covers.claims positive below h.2.0 h.2.1 h.2.2 in (
        omega (arith, positive, e),
        omega (arith, low, e),
        (b.claim, b.stands, b.held, ap (λ (n : VersionAt). n.oid) b.version ∙ h.2.3, ap (λ (n : VersionAt). n.place) b.version ∙ h.2.4),
      )

  none_covered : (begin : ℕ) (u : Task) (q : ℕ) → begin ≤ now → NoneInHand begin u q x → NoneInHand begin u q y
  none_covered begin (task.Owned oid owner) q past none = λ ne h. none ne (held_covered oid begin past h)
  none_covered begin (task.Cleared oid) q past none = λ h. none (held_covered oid begin past h)
  none_covered begin (task.Walks version head) q past none = λ h. none (held_covered version.oid begin past h)
  none_covered begin (task.Passed version) q past none = λ h. none (held_covered version.oid begin past h)
  none_covered begin (task.Found version stamp head) q past none = λ h. none (held_covered version.oid begin past h)
  none_covered begin (task.SafeWalks version) q past none = λ h. none (held_covered version.oid begin past h)
  none_covered begin (task.SafePassed version) q past none = λ h. none (held_covered version.oid begin past h)
  none_covered begin (task.SafeFound version) q past none = λ h. none (held_covered version.oid begin past h)
  none_covered begin _ q past none = tt

  left_covered : (z : Part) (u : Task) (q : ℕ) → z.current.stamp ≤ now → NoneLeft z u q x → NoneLeft z u q y
  left_covered z (task.ReadOwned read owner) q past left = λ ne h. left ne (over_covered (read_at z.current read).version z.current.stamp past h)
  left_covered z _ q past left = tt

-- the version in hand after a step
pub record Hand (c : Core) (p begin : ℕ) (u : Task) : Type 0 where
  pub in_hand : InHand c.shared begin u
  pub within : HandWithin c.shared u
  pub none : (q : ℕ) → q ≢ p → NoneInHand begin u q (c.seats q)

-- what settle has passed after a step
pub record Settle (c : Core) (p : ℕ) (y : Part) : Type 0 where
  pub passed : (q : ℕ) → q ≢ p → (k : ℕ) → k < passed_of y.task (length y.current.reads) → k < length y.current.reads
      → Overwriting (c.seats q) (read_at y.current k).version y.current.stamp → ⊥
  pub left : (q : ℕ) → q ≢ p → NoneLeft y y.task q (c.seats q)

-- what a seat has read after a step, against the objects and the other seats as they were
pub record Recalls (c : Core) (p : ℕ) (y : Part) : Type 0 where
  pub past : (u : Attempt) → u ∈ all_of y → u.begin ≤ c.shared.tail
  pub drawn : (u : Attempt) → u ∈ all_of y → 0 < y.current.stamp → u.begin ≤ y.current.stamp
  pub late : (u : Attempt) → u ∈ all_of y → 0 < (c.seats p).current.stamp → u.begin ≤ (c.seats p).current.stamp
  pub reads : (u : Attempt) (r : Read) → u ∈ all_of y → r ∈ u.reads → ReadFits c.shared u.begin r
  pub apart : (u : Attempt) (r : Read) → u ∈ all_of y → r ∈ u.reads → (q : ℕ) → q ≢ p → HoldsBelow (c.seats q) r.version.oid u.begin → ⊥

-- of the versions newer than the one that a claim overwrites none lies below this begin stamp, and no range of another seat
-- below it holds a claim on the object
pub record Stays (c : Core) (p begin : ℕ) (w : Claim) : Type 0 where
  pub newer : ClaimStays c.shared begin w
  pub apart : (q : ℕ) → q ≢ p → HoldsBelow (c.seats q) w.version.oid begin → ⊥

-- what a seat has claimed after a step, against the objects and the other seats as they were
pub record Claiming (c : Core) (p : ℕ) (y : Part) : Type 0 where
  pub each : (u : Attempt) (w : Claim) → u ∈ all_of y → w ∈ u.writes → Stays c p u.begin w

-- the current transaction is one of all
pub current_stands : (x : Part) → x.current ∈ all_of x
current_stands x = ∈-last x.over x.current

-- a commit stamp lies below the tail
stamp_past : (pl : Place) (t : Attempt) (now : ℕ) → IsCurrent pl t → BeginsAt pl t.begin now → t.stamp ≤ now
stamp_past Vacant t now cur b = let e = ap (λ (u : Attempt). u.stamp) cur in omega (arith, e)
stamp_past Idle t now cur b = let e = ap (λ (u : Attempt). u.stamp) cur in omega (arith, e)
stamp_past (Begun tail) t now cur b = let e = ap (λ (u : Attempt). u.stamp) cur in omega (arith, e)
stamp_past (Announced tail) t now cur b = let e = ap (λ (u : Attempt). u.stamp) cur in omega (arith, e)
stamp_past (Active tail) t now cur b = let e = cur.stamp in omega (arith, e)
stamp_past (Sealing tail) t now cur b = let e = cur.stamp in omega (arith, e)
stamp_past (Drawn tail stamp) t now cur b = let e = cur.stamp_is in let h = b.drawn in omega (arith, e, h)
stamp_past (Sealed tail stamp) t now cur b = let e = cur.stamp_is in let h = b.drawn in omega (arith, e, h)
stamp_past (Decided tail stamp) t now cur b = let e = cur.stamp_is in let h = b.drawn in omega (arith, e, h)
stamp_past (Leaving stamp) t now cur b = let e = cur.stamp_is in let h = b.1 in omega (arith, e, h)

-- a range isn't below a begin stamp that is at most its own
not_own : (x : Part) (oid begin : ℕ) → (0 < x.current.stamp → begin ≤ x.current.stamp) → HoldsBelow x oid begin → ⊥
not_own x oid begin late h = let a = late h.0 in let b = h.1 in omega (arith, a, b)

-- What a step leaves makes the law hold of the state after.
pub kept_from : (c : Core) (p : ℕ) (y : Part) (t : Shared) (d : Core) → Sound c → Grown c.shared t (c.seats p) → Covers c.shared.tail (c.seats p) y →
    Recalls c p y → Claiming c p y → Hand c p y.current.begin y.task → Settle c p y → record { shared = t; seats = put c.seats p y } ≡ d → Kept d
kept_from c p y t d sound g covers recalls claiming hand settle is =
    subst Kept is (record {
      own = each_seat (λ _ (z : Part). OwnSnapshot t z) c.seats p y own_new own_other;
      both = each_two Snapshot c.seats p y new_eyes on_new (λ q r _ _ ne. (sound.both q r ne).snapshot);
    })
  where
    own_new : OwnSnapshot t y
    own_new = record {
      past = λ u m. record { past = let a = recalls.past u m in let b = g.tail in omega (arith, a, b); drawn_later = recalls.drawn u m };
      reads = λ u r m n. fits_stays c.shared t (c.seats p) g u.begin r (not_own (c.seats p) r.version.oid u.begin (recalls.late u m)) (recalls.reads u r m n);
      claims = λ u w m n.
          newer_stays c.shared t (c.seats p) g w.version.oid w.version.place u.begin (not_own (c.seats p) w.version.oid u.begin (recalls.late u m)) (claiming.each u w m n).newer;
      in_hand = hand_stays c.shared t p (c.seats p) y.current.begin y.task g hand.within
          (none_holds y.current.begin y.task p (c.seats p) (λ oid. not_own (c.seats p) oid y.current.begin (recalls.late y.current (current_stands y)))) hand.in_hand;
    }

    own_other : (q : ℕ) → q ≢ p → OwnSnapshot t (c.seats q)
    own_other q ne =
        let old = (sound.own q).snapshot in
        let apart = (sound.both q p ne).snapshot in
        record {
          past = λ u m. record { past = let a = (old.past u m).past in let b = g.tail in omega (arith, a, b); drawn_later = (old.past u m).drawn_later };
          reads = λ u r m n. fits_stays c.shared t (c.seats p) g u.begin r (apart.reads u r m n) (old.reads u r m n);
          claims = λ u w m n. newer_stays c.shared t (c.seats p) g w.version.oid w.version.place u.begin (apart.claims u w m n) (old.claims u w m n);
          in_hand = hand_stays c.shared t p (c.seats p) (c.seats q).current.begin (c.seats q).task g (named_within c.shared (c.seats q).task (sound.own q).chains.named) apart.in_hand old.in_hand;
        }

    new_eyes : (q : ℕ) → q ≢ p → Snapshot y q (c.seats q)
    new_eyes q ne = record {
      reads = λ u r m n. recalls.apart u r m n q ne;
      claims = λ u w m n. (claiming.each u w m n).apart q ne;
      in_hand = hand.none q ne;
      passed = settle.passed q ne;
      left = settle.left q ne;
    }

    on_new : (q : ℕ) → q ≢ p → Snapshot (c.seats q) p y
    on_new q ne =
        let old = (sound.own q).snapshot in
        let apart = (sound.both q p ne).snapshot in
        let stamp = stamp_past (c.seats q).place (c.seats q).current c.shared.tail (sound.own q).ranges.current (sound.own q).begins.begins in
        record {
          reads = λ u r m n h. apart.reads u r m n (held_covered c.shared.tail (c.seats p) y covers r.version.oid u.begin (old.past u m).past h);
          claims = λ u w m n h. apart.claims u w m n (held_covered c.shared.tail (c.seats p) y covers w.version.oid u.begin (old.past u m).past h);
          in_hand = none_covered c.shared.tail (c.seats p) y covers (c.seats q).current.begin (c.seats q).task p
              (old.past (c.seats q).current (current_stands (c.seats q))).past apart.in_hand;
          passed = λ k a b h. apart.passed k a b (over_covered c.shared.tail (c.seats p) y covers (read_at (c.seats q).current k).version (c.seats q).current.stamp stamp h);
          left = left_covered c.shared.tail (c.seats p) y covers (c.seats q) (c.seats q).task p stamp apart.left;
        }
