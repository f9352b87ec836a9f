-- A look at another seat.
use Rattle.std.proofs.Common.{◌≡◌, ◌≢◌, ℕ, ◌<◌, ◌≤◌, ⊎_elim, true, ◌&&◌, eqb, leb, List, Some, refl, sym, ap, ◌∙◌, subst, arith}
use Rattle.std.specs.Prelude.{if◌then◌else◌}
use Rattle.std.proofs.lemmas.Bool.{and_parts, cases_eq, eqb-true, leb-true}
use Rattle.erm_machine.specs.declared.attempt.Attempt.{Attempt}
use Rattle.erm_machine.specs.declared.part.Part.{Part}
use Rattle.erm_machine.specs.declared.place.Place.{Place}
use Rattle.erm_machine.specs.declared.place.Place.TheVariants.{Vacant, Idle, Begun, Announced, Active, Sealing, Drawn, Sealed, Decided, Leaving}
use Rattle.erm_machine.specs.declared.task.Task.{Task}
use Rattle.erm_machine.specs.declared.task.Task.TheVariants as task
use Rattle.erm_machine.specs.Core.{Core}
use Rattle.erm_machine.specs.Facts.{IsCurrent}
use Rattle.erm_machine.specs.Life.{load_state, after_clear, noted}
use Rattle.erm_machine.specs.Seat.{read_at}
use Rattle.erm_machine.specs.Snapshot.{Overwriting, NoneLeft}
use Rattle.erm_machine.specs.Sound.{Sound}
use Rattle.erm_machine.specs.Words.{state_of, is_clear, is_least_bit, without_bit}
use Rattle.erm_machine.proofs.Guards.{when_then, either_way}
use Rattle.erm_core_si.proofs.SnapshotSteps.{Hand}
use Rattle.erm_core_si.proofs.SnapshotSame.{unsettled}
use Rattle.erm_core_si.proofs.SnapshotCalm.{same_current, calm_stay}
use Rattle.erm_core_si.proofs.SnapshotLeft.{Left, left_same, left_calm}
use Rattle.erm_core_si.proofs.SnapshotReads.{none_in_hand}
use Rattle.erm_core_si.proofs.SnapshotSettles.{passed_now, passed_more, left_settles}

-- a stamp that a look found at or above its bound
stamp_above : (c bound : ℕ) → 0 < c → is_clear c bound ≡ true → (n : ℕ) → n ≡ c → bound ≤ n
stamp_above c bound positive clear n e = grind arith

-- a seat that is found clear for a bound has no unfinished range below it
clear_above : (pl : Place) (t : Attempt) (bound : ℕ) → IsCurrent pl t → is_clear (state_of pl) bound ≡ true → 0 < t.stamp → bound ≤ t.stamp
clear_above Vacant t bound cur clear positive = absurd (omega (arith, ap (λ (u : Attempt). u.stamp) cur))
clear_above Idle t bound cur clear positive = absurd (omega (arith, ap (λ (u : Attempt). u.stamp) cur))
clear_above (Begun tail) t bound cur clear positive = absurd (omega (arith, ap (λ (u : Attempt). u.stamp) cur))
clear_above (Announced tail) t bound cur clear positive = absurd (omega (arith, ap (λ (u : Attempt). u.stamp) cur))
clear_above (Active tail) t bound cur clear positive = let z = cur.stamp in absurd (omega (arith, z, positive))
clear_above (Sealing tail) t bound cur clear positive = let z = cur.stamp in absurd (omega (arith, z, positive))
clear_above (Drawn tail c) t bound cur clear positive = absurd (cc)
clear_above (Sealed tail c) t bound cur clear positive = stamp_above c bound cur.positive clear t.stamp cur.stamp_is
clear_above (Decided tail c) t bound cur clear positive = stamp_above c bound cur.positive clear t.stamp cur.stamp_is
clear_above (Leaving c) t bound cur clear positive = stamp_above c bound cur.positive clear t.stamp cur.stamp_is

module _ (c : Core) (p other bound : ℕ) (sound : Sound c) where
  -- the seat after, with a task and the bounds noted
  looked : Task → List ℕ → Part
  looked u clear = record (c.seats p) { task = u; clear = clear }

  IsFoundClear : Type 0
  IsFoundClear = is_clear (state_of (c.seats other).place) bound ≡ true

  stays : (t : Task) (clear : List ℕ) → (c.seats p).task ≡ t → Left c p (looked t clear)
  unfolding looked
  stays t clear at = left_calm c p _ sound (calm_stay (c.seats p) (c.seats p).task _ refl refl (sym at))

  above : IsFoundClear → 0 < (c.seats other).current.stamp → bound ≤ (c.seats other).current.stamp
  unfolding IsFoundClear
  above found = clear_above (c.seats other).place (c.seats other).current bound (sound.own other).ranges.current found

  -- the owner of an entry is clear
  hand_cleared : (oid owner : ℕ) → (c.seats p).task ≡ task.Owned oid owner → IsFoundClear → other ≡ owner → (c.seats p).current.begin ≤ bound → Hand c p (c.seats p).current.begin (task.Cleared oid)
  hand_cleared oid owner at found same below = record {
    in_hand = tt;
    within = tt;
    none = λ q ne h.
        ⊎_elim
        (λ (here : q ≡ owner).
        let is : other ≡ q = same ∙ sym here in
        let stamp : (c.seats other).current.stamp ≡ (c.seats q).current.stamp = ap (λ n. (c.seats n).current.stamp) is in
        let positive = h.0 in
        let low = h.1 in
        let high = above found (omega (arith, positive, stamp)) in
        absurd (omega (arith, low, high, stamp, below)))
        (λ (there : q ≡ owner → ⊥). none_in_hand c p sound (task.Owned oid owner) at q ne there h)
        (cases_eq q owner);
  }

  -- the owner of a version read is clear
  owner_clear : (read owner : ℕ) → (c.seats p).task ≡ task.ReadOwned read owner → IsFoundClear → other ≡ owner → (c.seats p).current.stamp ≤ bound → (q : ℕ) → q ≢ p →
      Overwriting (c.seats q) (read_at (c.seats p).current read).version (c.seats p).current.stamp → ⊥
  owner_clear read owner at found same below q ne h =
      ⊎_elim
      (λ (here : q ≡ owner).
      let is : other ≡ q = same ∙ sym here in
      let stamp : (c.seats other).current.stamp ≡ (c.seats q).current.stamp = ap (λ n. (c.seats n).current.stamp) is in
      let positive = h.0 in
      let low = h.1 in
      let high = above found (omega (arith, positive, stamp)) in
      absurd (omega (arith, low, high, stamp, below)))
      (λ (there : q ≡ owner → ⊥). (subst (λ (u : Task). NoneLeft (c.seats p) u q (c.seats q)) at (sound.both p q (λ e. ne (sym e))).snapshot.left) there h)
      (cases_eq q owner)

  clear_left : (t : Task) (clear : List ℕ) → (c.seats p).task ≡ t → IsFoundClear → Left c p (looked (after_clear other bound (c.seats p) t) clear)
  unfolding looked
  clear_left (task.Owned oid owner) clear at found =
      either_way (λ (u : Task). Left c p (looked u clear)) (eqb other owner && leb (c.seats p).current.begin bound) (task.Cleared oid) (task.Owned oid owner)
      (λ g. left_same c p _ sound (same_current (c.seats p) _ refl refl)
      (hand_cleared oid owner at found (eqb-true other owner (and_parts _ _ g).0) (leb-true (c.seats p).current.begin bound (and_parts _ _ g).1)) (unsettled c p _ tt))
      (λ _. stays (task.Owned oid owner) clear at)
  clear_left (task.ReadOwned read owner) clear at found =
      either_way (λ (u : Task). Left c p (looked u clear)) (eqb other owner && leb (c.seats p).current.stamp bound) (task.ReadClear read) (task.ReadOwned read owner)
      (λ g. left_settles c p _ sound (same_current (c.seats p) _ refl refl) (record { in_hand = tt; within = tt; none = λ _ _. tt })
      (passed_more c p read (passed_now c p (task.ReadOwned read owner) sound at)
      (λ q ne _ h. owner_clear read owner at found (eqb-true other owner (and_parts _ _ g).0) (leb-true (c.seats p).current.stamp bound (and_parts _ _ g).1) q ne h)) (λ _ _. tt))
      (λ _. stays (task.ReadOwned read owner) clear at)
  clear_left (task.ReadersLeft write bits) clear at found =
      let all = passed_now c p (task.ReadersLeft write bits) sound at in
      either_way (λ (u : Task). Left c p (looked u clear)) (is_least_bit bits other && leb (c.seats p).current.stamp bound)
      (if eqb (without_bit bits other) 0 then task.WriteClear write else task.ReadersLeft write (without_bit bits other)) (task.ReadersLeft write bits)
      (λ _. either_way (λ (u : Task). Left c p (looked u clear)) (eqb (without_bit bits other) 0) (task.WriteClear write) (task.ReadersLeft write (without_bit bits other))
      (λ _. left_settles c p _ sound (same_current (c.seats p) _ refl refl) (record { in_hand = tt; within = tt; none = λ _ _. tt }) all (λ _ _. tt))
      (λ _. left_settles c p _ sound (same_current (c.seats p) _ refl refl) (record { in_hand = tt; within = tt; none = λ _ _. tt }) all (λ _ _. tt)))
      (λ _. stays (task.ReadersLeft write bits) clear at)
  clear_left t clear at found = stays t clear at

  pub look_left : (y : Part) → load_state p other bound (state_of (c.seats other).place) (c.seats p) ≡ Some y → Left c p y
  unfolding looked IsFoundClear
  look_left y e =
      when_then (Left c p) _ _ y e (λ _.
      let clear = if is_clear (state_of (c.seats other).place) bound then noted other bound (c.seats p).clear else (c.seats p).clear in
      either_way (λ (u : Task). Left c p (looked u clear)) (is_clear (state_of (c.seats other).place) bound) (after_clear other bound (c.seats p) (c.seats p).task) (c.seats p).task
      (λ found. clear_left (c.seats p).task clear refl found) (λ _. stays (c.seats p).task clear refl))
