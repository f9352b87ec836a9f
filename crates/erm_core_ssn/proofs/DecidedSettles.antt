-- Steps of settle.
use Rattle.std.proofs.Common.{◌≡◌, ◌≢◌, ℕ, ◌+◌, ◌<◌, ◌≤◌, Bool, true, false, ◌&&◌, not, eqb, length, Option, Some, None, refl, sym, ap, subst, arith}
use Rattle.std.specs.Prelude.{if◌then◌else◌}
use Rattle.std.proofs.lemmas.Bool.{and_parts, eqb-true}
use Rattle.erm_machine.specs.declared.limits.TheConstants.{ANNOUNCERS}
use Rattle.erm_machine.specs.declared.attempt.Attempt.{Attempt}
use Rattle.erm_machine.specs.declared.part.Flushing.{Flushing}
use Rattle.erm_machine.specs.declared.part.Flushing.TheVariants as flushing
use Rattle.erm_machine.specs.declared.part.Part.{Part}
use Rattle.erm_machine.specs.declared.place.Place.{Place}
use Rattle.erm_machine.specs.declared.place.Place.TheVariants.{Vacant, Sealed}
use Rattle.erm_machine.specs.declared.task.Task.{Task}
use Rattle.erm_machine.specs.declared.task.Task.TheVariants as task
use Rattle.erm_machine.specs.Core.{Core}
use Rattle.erm_machine.specs.Decided.{history_of, reads_rated, writes_rated, IsOpen, RunningFits, MarkInHand, NoneReadsLeft}
use Rattle.erm_machine.specs.Facts.{IsCurrent}
use Rattle.erm_machine.specs.Seat.{is_sealed, read_at}
use Rattle.erm_machine.specs.Flushing.{load_flushed}
use Rattle.erm_machine.specs.Settling.{has_room, may_settle, load_read_entry, filled, store_ring, load_flushed_to_settle}
use Rattle.erm_machine.specs.Sound.{Sound}
use Rattle.erm_machine.specs.Words.{head_of, owner_of}
use Rattle.erm_machine.proofs.Guards.{when_then, some_then, either_way}
use Rattle.erm_core_ssn.proofs.DecidedDecide.{not_vacant}
use Rattle.erm_core_ssn.proofs.DecidedFrames.{shape}
use Rattle.erm_core_ssn.proofs.DecidedOpen.{none_over}
use Rattle.erm_core_ssn.proofs.DecidedSteady.{Leaves, steady_leaves}
use Rattle.erm_core_ssn.proofs.DecidedBuild.{NotEnds, Passing, none_passing, passing_now, runs_now, retask, stays}
use Rattle.erm_core_ssn.proofs.DecidedCalm.{first}

sealed_current : (pl : Place) (t : Attempt) → IsCurrent pl t → is_sealed pl ≡ true → IsOpen t
sealed_current (Sealed tail stamp) t cur e = (let a = cur.stamp_is in let b = cur.positive in omega (arith, a, b), cur.decision)
sealed_current _ t cur e = absurd (cc)

-- settle that may begin isn't an end
settle_not_ends : (t : Task) → may_settle t ≡ true → NotEnds t
settle_not_ends (task.Ends raised ended step cleared) e = absurd (cc)
settle_not_ends _ e = tt

module _ (c : Core) (p : ℕ) (sound : Sound c) where
  pub sealed_open : is_sealed (c.seats p).place ≡ true → IsOpen (c.seats p).current
  sealed_open e = sealed_current (c.seats p).place (c.seats p).current (sound.own p).ranges.current e

  pub sealed_low : is_sealed (c.seats p).place ≡ true → p < ANNOUNCERS
  sealed_low e = not_vacant c p sound (λ (v : (c.seats p).place ≡ Vacant). let no : is_sealed Vacant ≡ true = subst (λ l. is_sealed l ≡ true) v e in cc)

  -- what is rated of the task now
  pub rated_at : (t : Task) (n : ℕ) → (c.seats p).task ≡ t → reads_rated t n ≡ reads_rated (c.seats p).task n
  rated_at t n at = ap (λ u. reads_rated u n) (sym at)

  pub writes_at : (t : Task) (n : ℕ) → (c.seats p).task ≡ t → writes_rated t n ≡ writes_rated (c.seats p).task n
  writes_at t n at = ap (λ u. writes_rated u n) (sym at)

  pub passing_at : (t : Task) → (c.seats p).task ≡ t → (q : ℕ) → q ≢ p → Passing (c.seats q) t (c.seats p).current
  passing_at t at q ne = subst (λ (u : Task). Passing (c.seats q) u (c.seats p).current) at (passing_now c p sound q ne)

  pub on_at : (t : Task) → (c.seats p).task ≡ t → NotEnds t → NotEnds (c.seats p).task
  on_at t at h = subst NotEnds (sym at) h

  -- settle changes the running numbers
  pub settles : (y : Part) → is_sealed (c.seats p).place ≡ true → y.over ≡ (c.seats p).over → y.current.decision ≡ (c.seats p).current.decision → y.current.stamp ≡ (c.seats p).current.stamp →
      shape (c.seats p).current ≡ shape y.current → y.current.reads ≡ (c.seats p).current.reads → MarkInHand c.shared y.current y.task →
      ((q : ℕ) → q ≢ p → Passing (c.seats q) y.task y.current) → ((q : ℕ) → q ≢ p → NoneReadsLeft y y.task q (c.seats q)) → RunningFits (history_of c.seats) c.shared.tail p y → Leaves c p y
  settles y sealed over decision stamp same reads hand passed left running =
      let h = sealed_open sealed in
      steady_leaves c p y sound (record {
        over = over;
        decision = decision;
        stamp = stamp;
        whole = λ ne. absurd (ne h.1);
        ranged = λ _. same;
        reads = λ _. reads;
        cleared_more = λ _. let z = (none_over c sound p (length (c.seats p).current.reads) h).bits in omega (arith, z);
      })
      hand passed left (λ _ _. running)

  -- the entry of a version read
  pub read_entry_leaves : (oid found : ℕ) (t : Task) (y : Part) → (c.seats p).task ≡ t → load_read_entry p oid found (c.seats p) t ≡ Some y → Leaves c p y
  read_entry_leaves oid found (task.Settles reads writes) y at e =
      let n = length (c.seats p).current.reads in
      let rated : reads ≡ reads_rated (c.seats p).task n = rated_at (task.Settles reads writes) n at in
      when_then (Leaves c p) _ _ y e (λ g.
      either_way (λ (u : Task). Leaves c p (record (c.seats p) { task = u }))
      ((eqb (head_of found) (read_at (c.seats p).current reads).version.cell) && not (eqb (owner_of found) 0) && not (eqb (owner_of found) p))
      (task.ReadOwned reads (owner_of found)) (task.ReadClear reads)
      (λ _. retask c p sound _ (task.ReadOwned reads (owner_of found)) refl refl refl refl (on_at _ at tt) tt (omega (arith, rated)) (omega arith) tt
      (λ q _. none_passing (c.seats q) (task.ReadOwned reads (owner_of found)) (c.seats p).current (λ _. refl)) (λ q _. tt))
      (λ _. retask c p sound _ (task.ReadClear reads) refl refl refl refl (on_at _ at tt) tt (omega (arith, rated)) (omega arith) tt
      (λ q _. none_passing (c.seats q) (task.ReadClear reads) (c.seats p).current (λ _. refl)) (λ q _. tt)))
  read_entry_leaves oid found _ y at e = absurd (cc)

  -- settle begins, or begins anew: no version is passed, and the running numbers stay
  to_settle_leaves : (found : ℕ) → Leaves c p (load_flushed_to_settle found (c.seats p))
  to_settle_leaves found =
      either_way (Leaves c p) (is_sealed (c.seats p).place && may_settle (c.seats p).task && has_room found (c.seats p).current) (record (c.seats p) { task = task.Settles 0 0 }) (c.seats p)
      (λ g. retask c p sound _ (task.Settles 0 0) refl refl refl refl (settle_not_ends (c.seats p).task (and_parts _ _ (and_parts _ _ g).0).1) tt (omega arith) (omega arith) tt
      (λ q _. λ k low. absurd (omega (arith, low))) (λ q _. tt))
      (λ _. stays c p sound _ refl refl refl refl)

  pub load_flushed_leaves : (found : ℕ) (f : Flushing) (y : Part) → load_flushed found (c.seats p) f ≡ Some y → Leaves c p y
  load_flushed_leaves found (flushing.Tail tail) y e = some_then (Leaves c p) _ y e (stays c p sound _ refl refl refl refl)
  load_flushed_leaves found _ y e = when_then (Leaves c p) _ _ y e (λ _. to_settle_leaves found)

  -- the words of the block
  fills_leaves : (at value : ℕ) (o : Option ℕ) (y : Part) → NotEnds (c.seats p).task →
      ((n : ℕ) → n ≡ length (c.seats p).current.reads → n ≤ reads_rated (c.seats p).task (length (c.seats p).current.reads)) →
      ((n : ℕ) → n ≡ length (c.seats p).current.writes → n ≤ writes_rated (c.seats p).task (length (c.seats p).current.writes)) →
      ((q : ℕ) → q ≢ p → (words : ℕ) → Passing (c.seats q) (task.Fills words) (c.seats p).current) → store_ring at value (c.seats p) o ≡ Some y → Leaves c p y
  fills_leaves at value None y on reads writes passed e = absurd (cc)
  fills_leaves at value (Some words) y on reads writes passed e =
      when_then (Leaves c p) _ _ y e (λ g.
      let sealed : is_sealed (c.seats p).place ≡ true = first _ _ (first _ _ (first _ _ (first _ _ g))) in
      let h = sealed_open sealed in
      let f = runs_now c p sound h.1 on in
      let all = reads (length (c.seats p).current.reads) refl in
      let most = writes (length (c.seats p).current.writes) refl in
      settles _ sealed refl refl refl refl refl tt (λ q ne. passed q ne (words + 1)) (λ q _. tt) (record {
        succ_least = λ v m low over. f.succ_least v m low (over.0, (let a = over.1 in omega (arith, a, all)), over.2, over.3);
        succ_own = f.succ_own;
        succ_attained = f.succ_attained;
        pred_readers = λ v m low has. f.pred_readers v m low (has.0, (let a = has.1 in omega (arith, a, most)), has.2, has.3);
        pred_reads = f.pred_reads;
        pred_writes = λ k low within. f.pred_writes k (omega (arith, low, most)) within;
        pred_attained = f.pred_attained;
      }))

  pub store_ring_leaves : (at value : ℕ) (t : Task) (y : Part) → (c.seats p).task ≡ t → store_ring at value (c.seats p) (filled (c.seats p).current t) ≡ Some y → Leaves c p y
  store_ring_leaves at value (task.Settles reads writes) y is e = by_test _ refl e
    where
      by_test : (b : Bool) → (eqb reads (length (c.seats p).current.reads) && eqb writes (length (c.seats p).current.writes)) ≡ b →
          store_ring at value (c.seats p) (if b then Some 0 else None) ≡ Some y → Leaves c p y
      by_test true g h =
          let r : reads ≡ length (c.seats p).current.reads = eqb-true reads _ (and_parts _ _ g).0 in
          let w : writes ≡ length (c.seats p).current.writes = eqb-true writes _ (and_parts _ _ g).1 in
          let rated : reads ≡ reads_rated (c.seats p).task (length (c.seats p).current.reads) = rated_at (task.Settles reads writes) (length (c.seats p).current.reads) is in
          let written : writes ≡ writes_rated (c.seats p).task (length (c.seats p).current.writes) = writes_at (task.Settles reads writes) (length (c.seats p).current.writes) is in
          fills_leaves at value (Some 0) y (on_at _ is tt) (λ n e. omega (arith, e, r, rated)) (λ n e. omega (arith, e, w, written))
          (λ q ne words k low within open_read. passing_at (task.Settles reads writes) is q ne k (omega (arith, low, w)) within open_read) h
      by_test false g h = absurd (cc)
  store_ring_leaves at value (task.Fills words) y is e =
      let rated = rated_at (task.Fills words) (length (c.seats p).current.reads) is in
      let written = writes_at (task.Fills words) (length (c.seats p).current.writes) is in
      fills_leaves at value (Some words) y (on_at _ is tt) (λ n e. omega (arith, e, rated)) (λ n e. omega (arith, e, written))
      (λ q ne more. passing_at (task.Fills words) is q ne) e
  store_ring_leaves at value _ y is e = absurd (cc)
