-- The readers of a version that is overwritten: those whose bits don't stand, and those that were found clear.
use Rattle.std.proofs.Common.{◌≡◌, ◌≢◌, ℕ, ◌<◌, ◌≤◌, ⊎_elim, true, ◌&&◌, eqb, ltb, leb, List, length, Some, refl, sym, ap, ◌∙◌, subst, arith}
use Rattle.std.specs.Prelude.{if◌then◌else◌}
use Rattle.std.specs.Int.{w64, bit_at, trailing_zeros}
use Rattle.std.proofs.lemmas.Bool.{and_parts, cases_eq, eqb-true, leb-true, ltb-true}
use Rattle.std.proofs.lemmas.Nat.Bits.{bit_at-zero}
use Rattle.erm_machine.specs.declared.limits.TheConstants.{ANNOUNCERS}
use Rattle.erm_machine.specs.declared.attempt.Attempt.{Attempt}
use Rattle.erm_machine.specs.declared.part.Part.{Part}
use Rattle.erm_machine.specs.declared.place.Place.{Place}
use Rattle.erm_machine.specs.declared.place.Place.TheVariants.{Vacant, Idle, Begun, Announced, Active, Sealing, Drawn, Sealed, Decided, Leaving}
use Rattle.erm_machine.specs.declared.task.Task.{Task}
use Rattle.erm_machine.specs.declared.task.Task.TheVariants as task
use Rattle.erm_machine.specs.declared.version.VersionAt.{VersionAt}
use Rattle.erm_machine.specs.Core.{Core, claim_at, version_at, blank}
use Rattle.erm_machine.specs.Decided.{reads_rated, writes_rated, Reading, NoneReadsLeft}
use Rattle.erm_machine.specs.Facts.{IsCurrent}
use Rattle.erm_machine.specs.Life.{load_state, after_clear, noted}
use Rattle.erm_machine.specs.Seat.{is_sealed, read_at}
use Rattle.erm_machine.specs.Settling.{load_readers}
use Rattle.erm_machine.specs.Sound.{Sound}
use Rattle.erm_machine.specs.Tasks.{TaskFits}
use Rattle.erm_machine.specs.Words.{state_of, is_clear, is_least_bit, without_bit}
use Rattle.erm_machine.proofs.Guards.{when_then, either_way}
use Rattle.erm_core_ssn.proofs.ReadersBits.{bit_cleared_other}
use Rattle.erm_core_ssn.proofs.DecidedDecide.{not_vacant}
use Rattle.erm_core_ssn.proofs.DecidedSteady.{Leaves}
use Rattle.erm_core_ssn.proofs.DecidedBuild.{Passing, none_passing, retask, stays, left_now}
use Rattle.erm_core_ssn.proofs.DecidedCalm.{free_from, free_step}
use Rattle.erm_core_ssn.proofs.DecidedSettles.{sealed_low, rated_at, writes_at, passing_at, on_at}
use Rattle.erm_core_ssn.proofs.DecidedWitness.{same_is}

-- a stamp that a look found at or above its bound
stamp_above : (c bound : ℕ) → 0 < c → is_clear c bound ≡ true → (n : ℕ) → n ≡ c → bound ≤ n
stamp_above c bound positive clear n e = grind arith

-- a seat that is found clear for a bound has no unfinished range below it
clear_above : (pl : Place) (t : Attempt) (bound : ℕ) → IsCurrent pl t → is_clear (state_of pl) bound ≡ true → 0 < t.stamp → bound ≤ t.stamp
clear_above Vacant t bound cur clear positive = absurd (omega (arith, ap (λ (u : Attempt). u.stamp) cur))
clear_above Idle t bound cur clear positive = absurd (omega (arith, ap (λ (u : Attempt). u.stamp) cur))
clear_above (Begun tail) t bound cur clear positive = absurd (omega (arith, ap (λ (u : Attempt). u.stamp) cur))
clear_above (Announced tail) t bound cur clear positive = absurd (omega (arith, ap (λ (u : Attempt). u.stamp) cur))
clear_above (Active tail) t bound cur clear positive = let z = cur.stamp in absurd (omega (arith, z, positive))
clear_above (Sealing tail) t bound cur clear positive = let z = cur.stamp in absurd (omega (arith, z, positive))
clear_above (Drawn tail c) t bound cur clear positive = absurd (cc)
clear_above (Sealed tail c) t bound cur clear positive = stamp_above c bound cur.positive clear t.stamp cur.stamp_is
clear_above (Decided tail c) t bound cur clear positive = stamp_above c bound cur.positive clear t.stamp cur.stamp_is
clear_above (Leaving c) t bound cur clear positive = stamp_above c bound cur.positive clear t.stamp cur.stamp_is

-- a seat that looks at readers is sealed
sealed_by : (pl : Place) (t : Attempt) (write bits : ℕ) → TaskFits pl t (task.ReadersLeft write bits) → is_sealed pl ≡ true
sealed_by (Sealed tail stamp) t write bits f = refl
sealed_by (Active tail) t write bits f = absurd f
sealed_by (Decided tail stamp) t write bits f = absurd f
sealed_by _ t write bits f = absurd (cc)

-- a bit that isn't set where another one is cleared
bit_before : (bits p q : ℕ) → p < ANNOUNCERS → q < ANNOUNCERS → q ≢ p → bit_at (without_bit bits p) q ≡ 0 → bit_at bits q ≡ 0
bit_before bits p q a b ne e = sym (bit_cleared_other bits p q (omega (arith, a)) (omega (arith, b)) ne) ∙ e

-- a seat whose bit is the least is one with words
least_low : (bits other : ℕ) → is_least_bit bits other ≡ true → other < ANNOUNCERS
least_low bits other e = ltb-true other ANNOUNCERS (and_parts (eqb (trailing_zeros w64 bits) other) (ltb other ANNOUNCERS) e).1

module _ (c : Core) (p : ℕ) (sound : Sound c) where
  -- a seat that has a range has words
  reader_low : (q : ℕ) → 0 < (c.seats q).current.stamp → q < ANNOUNCERS
  reader_low q positive = not_vacant c q sound (λ (v : (c.seats q).place ≡ Vacant).
      let cur : (c.seats q).current ≡ blank = subst (λ l. IsCurrent l (c.seats q).current) v (sound.own q).ranges.current in
      let e = ap (λ (t : Attempt). t.stamp) cur in omega (arith, e, positive))

  -- a seat whose bit isn't set doesn't read the version
  not_reading : (q oid place bound : ℕ) (v : VersionAt) → v.oid ≡ oid → v.place ≡ place → bit_at (version_at (c.shared.objects oid) place).words.readers q ≡ 0 → Reading (c.seats q) v bound → ⊥
  not_reading q oid place bound v is at none h =
      let one = (sound.own q).readers.stands h.2.0 h.2.1 h.2.2 in
      let there = subst (λ n. bit_at (version_at (c.shared.objects n) (read_at (c.seats q).current h.2.0).version.place).words.readers q ≡ 1) (h.2.3 ∙ is) one in
      let here = subst (λ n. bit_at (version_at (c.shared.objects oid) n).words.readers q ≡ 1) (h.2.4 ∙ at) there in
      omega (arith, here, none)

  -- one more version overwritten is passed
  passing_more : (write : ℕ) → ((q : ℕ) → q ≢ p → (k : ℕ) → k < write → k < length (c.seats p).current.writes → Reading (c.seats q) (claim_at (c.seats p).current k).version (c.seats p).current.stamp → ⊥) →
      ((q : ℕ) → q ≢ p → Reading (c.seats q) (claim_at (c.seats p).current write).version (c.seats p).current.stamp → ⊥) → (q : ℕ) → q ≢ p → Passing (c.seats q) (task.WriteClear write) (c.seats p).current
  passing_more write old here q ne k low within reads =
      ⊎_elim
      (λ (same : k ≡ write). here q ne (subst (λ n. Reading (c.seats q) (claim_at (c.seats p).current n).version (c.seats p).current.stamp) same reads))
      (λ (other : k ≡ write → ⊥). old q ne k (omega (arith, low, other)) within reads)
      (cases_eq k write)

  module _ (found writes : ℕ) (v : VersionAt) (is : found ≡ (version_at (c.shared.objects v.oid) v.place).words.readers) (same : v ≡ (claim_at (c.seats p).current writes).version) (low : p < ANNOUNCERS) where
    none_by_bit : (q : ℕ) → q ≢ p → bit_at (without_bit found p) q ≡ 0 → Reading (c.seats q) (claim_at (c.seats p).current writes).version (c.seats p).current.stamp → ⊥
    none_by_bit q ne zero h =
        not_reading q v.oid v.place (c.seats p).current.stamp (claim_at (c.seats p).current writes).version (ap (λ (w : VersionAt). w.oid) (sym same)) (ap (λ (w : VersionAt). w.place) (sym same))
        (ap (λ n. bit_at n q) (sym is) ∙ bit_before found p q low (reader_low q h.0) ne zero) h

  pub readers_leaves : (found : ℕ) (v : VersionAt) (t : Task) (y : Part) → found ≡ (version_at (c.shared.objects v.oid) v.place).words.readers → (c.seats p).task ≡ t →
      load_readers p v found (c.seats p) t ≡ Some y → Leaves c p y
  readers_leaves found v (task.Settles reads writes) y is at e =
      let n = length (c.seats p).current.reads in
      let m = length (c.seats p).current.writes in
      let rated : reads ≡ reads_rated (c.seats p).task n = rated_at c p sound (task.Settles reads writes) n at in
      let written : writes ≡ writes_rated (c.seats p).task m = writes_at c p sound (task.Settles reads writes) m at in
      when_then (Leaves c p) _ _ y e (λ g.
      let sealed : is_sealed (c.seats p).place ≡ true = (and_parts _ _ (and_parts _ _ (and_parts _ _ g).0).0).0 in
      let all : reads ≡ n = eqb-true _ _ (and_parts _ _ (and_parts _ _ (and_parts _ _ g).0).0).1 in
      let same : v ≡ (claim_at (c.seats p).current writes).version = same_is v (claim_at (c.seats p).current writes).version (and_parts _ _ g).1 in
      let none = none_by_bit found writes v is same (sealed_low c p sound sealed) in
      either_way (λ (u : Task). Leaves c p (record (c.seats p) { task = u })) (eqb (without_bit found p) 0) (task.WriteClear writes) (task.ReadersLeft writes (without_bit found p))
      (λ zero. retask c p sound _ (task.WriteClear writes) refl refl refl refl (on_at c p sound _ at tt) tt (omega (arith, all, rated)) (omega (arith, written)) tt
      (passing_more writes (passing_at c p sound (task.Settles reads writes) at)
      (λ q ne. none q ne (ap (λ b. bit_at b q) (eqb-true (without_bit found p) 0 zero) ∙ bit_at-zero q))) (λ q _. tt))
      (λ _. retask c p sound _ (task.ReadersLeft writes (without_bit found p)) refl refl refl refl (on_at c p sound _ at tt) tt (omega (arith, all, rated)) (omega (arith, written)) tt
      (λ q ne. passing_at c p sound (task.Settles reads writes) at q ne) (λ q ne. none q ne)))
  readers_leaves found v _ y is at e = absurd (cc)

  -- a look at another seat
  module _ (other bound : ℕ) where
    looked : Task → List ℕ → Part
    looked u clear = record (c.seats p) { task = u; clear = clear }

    same_task : (t : Task) (clear : List ℕ) → (c.seats p).task ≡ t → Leaves c p (looked t clear)
    unfolding looked
    same_task t clear at = stays c p sound _ refl refl (sym at) refl

    reader_clear : (write bits : ℕ) → (c.seats p).task ≡ task.ReadersLeft write bits → is_clear (state_of (c.seats other).place) bound ≡ true → (c.seats p).current.stamp ≤ bound → is_least_bit bits other ≡ true → p < ANNOUNCERS →
        (q : ℕ) → q ≢ p → bit_at (without_bit bits other) q ≡ 0 → Reading (c.seats q) (claim_at (c.seats p).current write).version (c.seats p).current.stamp → ⊥
    reader_clear write bits at clear below least low q ne zero h =
        ⊎_elim
        (λ (here : q ≡ other).
        let positive = h.0 in
        let less = h.1 in
        let s : (c.seats other).current.stamp ≡ (c.seats q).current.stamp = ap (λ n. (c.seats n).current.stamp) (sym here) in
        let high = clear_above (c.seats other).place (c.seats other).current bound (sound.own other).ranges.current clear (omega (arith, positive, s)) in
        omega (arith, high, s, less, below))
        (λ (there : q ≡ other → ⊥).
        (subst (λ (u : Task). NoneReadsLeft (c.seats p) u q (c.seats q)) at (left_now c p sound q ne))
        (bit_before bits other q (least_low bits other least) (reader_low q h.0) there zero) h)
        (cases_eq q other)

    clear_leaves : (t : Task) (clear : List ℕ) → (c.seats p).task ≡ t → is_clear (state_of (c.seats other).place) bound ≡ true → Leaves c p (looked (after_clear other bound (c.seats p) t) clear)
    unfolding looked
    clear_leaves (task.Owned oid owner) clear at found =
        either_way (λ (u : Task). Leaves c p (looked u clear)) (eqb other owner && leb (c.seats p).current.begin bound) (task.Cleared oid) (task.Owned oid owner)
        (λ _. free_step c p sound _ refl refl refl (on_at c p sound _ at tt) (free_from _ tt)) (λ _. same_task (task.Owned oid owner) clear at)
    clear_leaves (task.ReadOwned read owner) clear at found =
        let rated : read ≡ reads_rated (c.seats p).task (length (c.seats p).current.reads) = rated_at c p sound (task.ReadOwned read owner) (length (c.seats p).current.reads) at in
        either_way (λ (u : Task). Leaves c p (looked u clear)) (eqb other owner && leb (c.seats p).current.stamp bound) (task.ReadClear read) (task.ReadOwned read owner)
        (λ _. retask c p sound _ (task.ReadClear read) refl refl refl refl (on_at c p sound _ at tt) tt (omega (arith, rated)) (omega arith) tt
        (λ q _. none_passing (c.seats q) (task.ReadClear read) (c.seats p).current (λ _. refl)) (λ q _. tt))
        (λ _. same_task (task.ReadOwned read owner) clear at)
    clear_leaves (task.ReadersLeft write bits) clear at found =
        let rated = rated_at c p sound (task.ReadersLeft write bits) (length (c.seats p).current.reads) at in
        let written = writes_at c p sound (task.ReadersLeft write bits) (length (c.seats p).current.writes) at in
        let low = sealed_low c p sound (sealed_by (c.seats p).place (c.seats p).current write bits (subst (λ (u : Task). TaskFits (c.seats p).place (c.seats p).current u) at (sound.own p).task.fits)) in
        either_way (λ (u : Task). Leaves c p (looked u clear)) (is_least_bit bits other && leb (c.seats p).current.stamp bound)
        (if eqb (without_bit bits other) 0 then task.WriteClear write else task.ReadersLeft write (without_bit bits other)) (task.ReadersLeft write bits)
        (λ g.
        let none = reader_clear write bits at found (leb-true (c.seats p).current.stamp bound (and_parts _ _ g).1) (and_parts _ _ g).0 low in
        either_way (λ (u : Task). Leaves c p (looked u clear)) (eqb (without_bit bits other) 0) (task.WriteClear write) (task.ReadersLeft write (without_bit bits other))
        (λ zero. retask c p sound _ (task.WriteClear write) refl refl refl refl (on_at c p sound _ at tt) tt (omega (arith, rated)) (omega (arith, written)) tt
        (passing_more write (passing_at c p sound (task.ReadersLeft write bits) at)
        (λ q ne. none q ne (ap (λ b. bit_at b q) (eqb-true (without_bit bits other) 0 zero) ∙ bit_at-zero q))) (λ q _. tt))
        (λ _. retask c p sound _ (task.ReadersLeft write (without_bit bits other)) refl refl refl refl (on_at c p sound _ at tt) tt (omega (arith, rated)) (omega (arith, written)) tt
        (λ q ne. passing_at c p sound (task.ReadersLeft write bits) at q ne) (λ q ne. none q ne)))
        (λ _. same_task (task.ReadersLeft write bits) clear at)
    clear_leaves t clear at found = same_task t clear at

    pub look_leaves : (y : Part) → load_state p other bound (state_of (c.seats other).place) (c.seats p) ≡ Some y → Leaves c p y
    unfolding looked
    look_leaves y e =
        when_then (Leaves c p) _ _ y e (λ _.
        let clear = if is_clear (state_of (c.seats other).place) bound then noted other bound (c.seats p).clear else (c.seats p).clear in
        either_way (λ (u : Task). Leaves c p (looked u clear)) (is_clear (state_of (c.seats other).place) bound) (after_clear other bound (c.seats p) (c.seats p).task) (c.seats p).task
        (λ found. clear_leaves (c.seats p).task clear refl found) (λ _. same_task (c.seats p).task clear refl))
