-- Nothing stalls: whoever waits leads down to somebody who doesn't.
use Rattle.std.proofs.Common.{◌≡◌, ℕ, zero, suc, ◌+◌, ◌*◌, ◌<◌, ◌⊎◌, ⊎_elim, true, false, refl, sym, ap, subst, inl, inr, arith}
use Rattle.erm_machine.specs.declared.task.Task.TheVariants as task
use Rattle.erm_machine.specs.Core.{Core}
use Rattle.erm_machine.specs.Settling.{has_room}
use Rattle.erm_machine.specs.Sound.{Sound}
use Rattle.erm_machine.specs.Words.{begin_of, is_clear, state_of}
use Rattle.erm_core_stall.specs.Waiting.{Actor, ActsOn, GoesOn, IsLeastPending, IsLeastSealed, IsPending, IsSealedAt, IsSealing, IsUnfinished, NoneSealed, NoneSeals, OnlyPending, TurnsOn, WaitsFor, flush_turn, for_begin, for_block, for_owner, for_overwriter, for_reader, for_ring, level, seat_of}
use Rattle.erm_core_stall.proofs.Down.{falls}
use Rattle.erm_core_stall.proofs.Going.{goes_or_waits}
use Rattle.erm_core_stall.proofs.Places.{begun_up, fits_at, flushed_positive, found_sealed, found_sealing, full_above, open_at, raised_at, sealed_no_snapshot, sealed_place, sealed_up, sealing_level, sealing_up, stamped, stamped_level, unclear}
use Rattle.erm_core_stall.proofs.Turning.{turns}

-- a transaction isn't over; something is to be flushed
abbrev IsUp : Core → Actor → Type 0
IsUp c (seat_of p) = IsUnfinished (c.seats p).place
IsUp c flush_turn = c.shared.flushed < c.shared.tail

-- what one awaited is: a transaction that seals, one that is sealed, or a turn with something to flush
data Awaited (c : Core) (b : Actor) : Type 0 where
  one_seals : (q : ℕ) → b ≡ seat_of q → IsSealing (c.seats q).place → Awaited c b
  one_sealed : (q s : ℕ) → b ≡ seat_of q → IsSealedAt s (c.seats q).place → Awaited c b
  the_turn : (p s : ℕ) → b ≡ flush_turn → IsSealedAt s (c.seats p).place → has_room c.shared.flushed (c.seats p).current ≡ false → Awaited c b

looked_at : (c : Core) (q bound : ℕ) → is_clear (state_of (c.seats q).place) bound ≡ false → Awaited c (seat_of q)
looked_at c q bound e =
    elim (unclear (c.seats q).place bound e) [
      | found_sealing h ↦ one_seals q refl h
      | found_sealed s h low ↦ one_sealed q s refl h
    ]

-- or one whose begin word stands below a snapshot's begin stamp
record Begun (c : Core) (a b : Actor) : Type 0 where
  pub snapshot : ℕ
  pub other : ℕ
  pub is_a : a ≡ seat_of snapshot
  pub is_b : b ≡ seat_of other
  pub at : (c.seats snapshot).task ≡ task.Surveys other
  pub some : 0 < begin_of (c.seats other).place
  pub low : begin_of (c.seats other).place < (c.seats snapshot).current.begin

-- who waits has no snapshot that looks
abbrev NotPending : Core → Actor → Type 0
NotPending c (seat_of p) = IsPending (c.seats p).task → ⊥
NotPending c flush_turn = Unit {0}

module _ (c : Core) (sound : Sound c) where
  why : (a b : Actor) → WaitsFor c a b → Awaited c b ⊎ Begun c a b
  why a b (for_owner p oid owner is_a is_b at e) = inl (subst (Awaited c) (sym is_b) (looked_at c owner (c.seats p).current.begin e))
  why a b (for_overwriter p read owner is_a is_b at e) = inl (subst (Awaited c) (sym is_b) (looked_at c owner (c.seats p).current.stamp e))
  why a b (for_reader p write bits reader is_a is_b at least e) = inl (subst (Awaited c) (sym is_b) (looked_at c reader (c.seats p).current.stamp e))
  why a b (for_ring p is_a is_b here rest full) = let h = sealed_place (c.seats p).place here in inl (the_turn p h.0 is_b h.1 full)
  why a b (for_begin p other is_a is_b at ne some low) = inr (record { snapshot = p; other = other; is_a = is_a; is_b = is_b; at = at; some = some; low = low })
  why a b (for_block q is_a is_b starts none) =
      let some = flushed_positive c sound in
      inl (⊎_elim (λ (h : IsSealing (c.seats q).place). one_seals q is_b h) (λ (h : IsSealedAt (c.seats q).current.stamp (c.seats q).place). one_sealed q (c.seats q).current.stamp is_b h)
      (open_at c sound q (omega (arith, some, starts)) none))

  awaited : (a b : Actor) → NotPending c a → WaitsFor c a b → Awaited c b
  awaited a b none w =
      ⊎_elim (λ (h : Awaited c b). h)
      (λ (h : Begun c a b). absurd (subst (NotPending c) h.is_a none (subst IsPending (sym h.at) tt))) (why a b w)

  -- where the ring has no room something is to be flushed
  to_flush : (p s : ℕ) → IsSealedAt s (c.seats p).place → has_room c.shared.flushed (c.seats p).current ≡ false → c.shared.flushed < c.shared.tail
  to_flush p s h full = let above = full_above c sound p s h full in let below = (stamped c sound p s h).2 in omega (arith, above, below)

  up_from : (b : Actor) → Awaited c b → IsUp c b
  up_from b (one_seals q is h) = subst (IsUp c) (sym is) (sealing_up (c.seats q).place h)
  up_from b (one_sealed q s is h) = subst (IsUp c) (sym is) (sealed_up (c.seats q).place s h)
  up_from b (the_turn p s is h full) = subst (IsUp c) (sym is) (to_flush p s h full)

  up_of : (a b : Actor) → WaitsFor c a b → IsUp c b
  up_of a b w = ⊎_elim (λ (h : Awaited c b). up_from b h) (λ (h : Begun c a b). subst (IsUp c) (sym h.is_b) (begun_up (c.seats h.other).place h.some)) (why a b w)

  down_to : (n : ℕ) (a : Actor) → level c a < n → IsUp c a → (x : Actor) × ActsOn c x
  down_to zero a low up = absurd (omega (arith, low))
  down_to (suc n) (seat_of p) low up =
      ⊎_elim (λ (on : GoesOn c p). (seat_of p, on))
      (λ (w : (b : Actor) × WaitsFor c (seat_of p) b). let less = falls c sound (seat_of p) w.0 w.1 in down_to n w.0 (omega (arith, low, less)) (up_of (seat_of p) w.0 w.1))
      (goes_or_waits c p sound up)
  down_to (suc n) flush_turn low up =
      ⊎_elim (λ (on : TurnsOn c). (flush_turn, on))
      (λ (w : (q : ℕ) × WaitsFor c flush_turn (seat_of q)).
      let less = falls c sound flush_turn (seat_of w.0) w.1 in down_to n (seat_of w.0) (omega (arith, low, less)) (up_of flush_turn (seat_of w.0) w.1))
      (turns c sound up)

  pub somebody : (p : ℕ) → IsUnfinished (c.seats p).place → (a : Actor) × ActsOn c a
  somebody p up = down_to (level c (seat_of p) + 1) (seat_of p) (omega arith) up

  -- by whom a seat waits for
  goes_unless : (p : ℕ) → IsUnfinished (c.seats p).place → ((b : Actor) → WaitsFor c (seat_of p) b → ⊥) → GoesOn c p
  goes_unless p up none = ⊎_elim (λ (on : GoesOn c p). on) (λ (w : (b : Actor) × WaitsFor c (seat_of p) b). absurd (none w.0 w.1)) (goes_or_waits c p sound up)

  -- nobody who seals waits, since nothing lies below
  pub sealing_goes : (p : ℕ) → IsSealing (c.seats p).place → GoesOn c p
  sealing_goes p h =
      goes_unless p (sealing_up (c.seats p).place h) (λ b w.
      let less = falls c sound (seat_of p) b w in
      let none = sealing_level c.shared.tail (c.seats p).current.begin (c.seats p).place (c.seats p).task h in
      omega (arith, less, none))

  -- whoever waits below a least sealed one seals, or makes room
  not_below : (p stamp : ℕ) → NoneSeals c → IsLeastSealed c p stamp → (b : Actor) → Awaited c b → level c b < 2 * stamp → (b ≡ flush_turn → ⊥) → ⊥
  not_below p stamp quiet least b (one_seals q is h) low turn = quiet q h
  not_below p stamp quiet least b (one_sealed q s is h) low turn =
      let same = ap (level c) is in
      let there = stamped_level c.shared.tail (c.seats q).current.begin (c.seats q).place (c.seats q).task s h in
      let up = least.least q s h in
      omega (arith, low, same, there, up)
  not_below p stamp quiet least b (the_turn r s is h full) low turn = turn is

  ring_alone : (p : ℕ) (a b : Actor) → a ≡ seat_of p → has_room c.shared.flushed (c.seats p).current ≡ true → WaitsFor c a b → b ≡ flush_turn → ⊥
  ring_alone p a b is room (for_owner r oid owner is_a is_b at e) turn = absurd (cc)
  ring_alone p a b is room (for_overwriter r read owner is_a is_b at e) turn = absurd (cc)
  ring_alone p a b is room (for_reader r write bits reader is_a is_b at least e) turn = absurd (cc)
  ring_alone p a b is room (for_ring r is_a is_b here rest full) turn =
      let same : r ≡ p = cc in
      let none : has_room c.shared.flushed (c.seats p).current ≡ false = subst (λ n. has_room c.shared.flushed (c.seats n).current ≡ false) same full in
      absurd (cc)
  ring_alone p a b is room (for_begin r other is_a is_b at ne some low) turn = absurd (cc)
  ring_alone p a b is room (for_block q is_a is_b starts none) turn = absurd (cc)

  pub sealed_goes : (p stamp : ℕ) → NoneSeals c → IsLeastSealed c p stamp → has_room c.shared.flushed (c.seats p).current ≡ true → GoesOn c p
  sealed_goes p stamp quiet least room =
      goes_unless p (sealed_up (c.seats p).place stamp least.sealed) (λ b w.
      let less = falls c sound (seat_of p) b w in
      let here = stamped_level c.shared.tail (c.seats p).current.begin (c.seats p).place (c.seats p).task stamp least.sealed in
      let x = c.seats p in
      let none = sealed_no_snapshot x.place x.current x.task stamp least.sealed (fits_at c sound p) in
      not_below p stamp quiet least b (awaited (seat_of p) b none w) (omega (arith, less, here)) (ring_alone p (seat_of p) b refl room w))

  seat_no_turn : (q : ℕ) → seat_of q ≡ flush_turn → ⊥
  seat_no_turn q e = absurd (cc)

  pub ring_goes : (p stamp : ℕ) → NoneSeals c → IsLeastSealed c p stamp → has_room c.shared.flushed (c.seats p).current ≡ false → TurnsOn c
  ring_goes p stamp quiet least full =
      let above = full_above c sound p stamp least.sealed full in
      ⊎_elim
      (λ (on : TurnsOn c). on)
      (λ (w : (q : ℕ) × WaitsFor c flush_turn (seat_of q)).
      let less = falls c sound flush_turn (seat_of w.0) w.1 in
      absurd (not_below p stamp quiet least (seat_of w.0) (awaited flush_turn (seat_of w.0) tt w.1) (omega (arith, less, above)) (seat_no_turn w.0)))
      (turns c sound (to_flush p stamp least.sealed full))

  -- whoever is awaited seals, or is sealed, or waits for the ring
  none_awaited : NoneSeals c → NoneSealed c → (b : Actor) → Awaited c b → ⊥
  none_awaited quiet none b (one_seals q is h) = quiet q h
  none_awaited quiet none b (one_sealed q s is h) = none q s h
  none_awaited quiet none b (the_turn p s is h full) = none p s h

  pub active_goes : (p : ℕ) → NoneSeals c → NoneSealed c → (IsPending (c.seats p).task → ⊥) → IsUnfinished (c.seats p).place → GoesOn c p
  active_goes p quiet none other up = goes_unless p up (λ b w. none_awaited quiet none b (awaited (seat_of p) b other w))

  -- the begin word of a snapshot that looks is its begin stamp: nobody's stands below the least
  none_begun : (p : ℕ) → OnlyPending c → IsLeastPending c p → (b : Actor) → Begun c (seat_of p) b → ⊥
  none_begun p only least b h =
      let same : h.snapshot ≡ p = let is = h.is_a in cc in
      let up = begun_up (c.seats h.other).place h.some in
      let raised = raised_at c sound h.other (only h.other up) in
      let above = least.least h.other up in
      let low : begin_of (c.seats h.other).place < (c.seats p).current.begin = subst (λ n. begin_of (c.seats h.other).place < (c.seats n).current.begin) same h.low in
      omega (arith, raised, above, low)

  pub pending_goes : (p : ℕ) → NoneSeals c → NoneSealed c → OnlyPending c → IsLeastPending c p → GoesOn c p
  pending_goes p quiet none only least =
      goes_unless p least.unfinished (λ b w.
      ⊎_elim (λ (h : Awaited c b). none_awaited quiet none b h) (λ (h : Begun c (seat_of p) b). none_begun p only least b h) (why (seat_of p) b w))
