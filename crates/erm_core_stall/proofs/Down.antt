-- Waits lead down, and so go in no circle.
use Rattle.std.proofs.Common.{◌≡◌, ℕ, zero, suc, ◌+◌, ◌*◌, ◌<◌, ◌⊎◌, ⊎_elim, true, false, ap, ◌∙◌, subst, arith}
use Rattle.erm_machine.specs.declared.task.Task.TheVariants as task
use Rattle.erm_machine.specs.Core.{Core}
use Rattle.erm_machine.specs.Seat.{is_sealed}
use Rattle.erm_machine.specs.Sound.{Sound}
use Rattle.erm_machine.specs.Tasks.{TaskFits}
use Rattle.erm_machine.specs.Words.{begin_of, is_clear, state_of}
use Rattle.erm_core_calls.proofs.GoesActive.{bound_at}
use Rattle.erm_core_stall.specs.Waiting.{Actor, Chain, IsSealedAt, IsSealing, WaitsFor, flush_turn, for_begin, for_block, for_owner, for_overwriter, for_reader, for_ring, level, level_at, seat_of}
use Rattle.erm_core_stall.proofs.Places.{apart, fits_at, flushed_positive, found_sealed, found_sealing, full_above, most_level, open_at, other_reader, owned_level, owned_place, raised_at, read_owned_place, readers_left_place, sealed_place, sealing_level, stamped, stamped_level, surveys_level, surveys_place, tail_positive, unclear}

module _ (c : Core) (sound : Sound c) where
  -- the level of one that isn't clear for a bound is below twice a number above the stamps that may be its
  unclear_level : (q bound top : ℕ) → is_clear (state_of (c.seats q).place) bound ≡ false → 0 < top → ((s : ℕ) → IsSealedAt s (c.seats q).place → (s ≡ 1) ⊎ (s < bound) → s < top) →
      level c (seat_of q) < 2 * top
  unclear_level q bound top e some below =
      elim (unclear (c.seats q).place bound e) [
        | found_sealing h ↦ let none = sealing_level c.shared.tail (c.seats q).current.begin (c.seats q).place (c.seats q).task h in omega (arith, none, some)
        | found_sealed s h low ↦ let is = stamped_level c.shared.tail (c.seats q).current.begin (c.seats q).place (c.seats q).task s h in let less = below s h low in omega (arith, is, less)
      ]

  -- a read waits for one that isn't clear for its begin stamp
  owner_falls : (p oid owner : ℕ) → (c.seats p).task ≡ task.Owned oid owner → is_clear (state_of (c.seats owner).place) (c.seats p).current.begin ≡ false →
      level c (seat_of owner) < level c (seat_of p)
  owner_falls p oid owner at e =
      let active = owned_place (c.seats p).place (c.seats p).current oid owner (subst (TaskFits (c.seats p).place (c.seats p).current) at (fits_at c sound p)) in
      let is : level c (seat_of p) ≡ 2 * c.shared.tail =
      ap (level_at c.shared.tail (c.seats p).current.begin (c.seats p).place) at ∙ owned_level c.shared.tail (c.seats p).current.begin (c.seats p).place oid owner active in
      let less = unclear_level owner (c.seats p).current.begin c.shared.tail e (tail_positive c sound) (λ s h low. (stamped c sound owner s h).2) in
      omega (arith, is, less)

  -- a settle waits for another one that isn't clear for its stamp
  settle_falls : (p q : ℕ) → is_sealed (c.seats p).place ≡ true → (q ≡ p → ⊥) → is_clear (state_of (c.seats q).place) (c.seats p).current.stamp ≡ false →
      level c (seat_of q) < level c (seat_of p)
  settle_falls p q is_here other e =
      let here = sealed_place (c.seats p).place is_here in
      let is = stamped_level c.shared.tail (c.seats p).current.begin (c.seats p).place (c.seats p).task here.0 here.1 in
      let own = stamped c sound p here.0 here.1 in
      let stamp_is = own.0 in
      let some = own.1 in
      let less = unclear_level q (c.seats p).current.stamp here.0 e some (λ s h low.
      ⊎_elim
      (λ (one : s ≡ 1). above_one s here.0 one some (λ (same : here.0 ≡ s). apart c sound p q here.0 s here.1 h other same))
      (λ (below : s < (c.seats p).current.stamp). omega (arith, below, stamp_is))
      low) in
      omega (arith, is, less)
    where
      above_one : (s n : ℕ) → s ≡ 1 → 0 < n → (n ≡ s → ⊥) → s < n
      above_one s n one some ne = grind arith

  -- a snapshot waits for one whose begin word stands below its begin stamp
  begin_falls : (p other : ℕ) → (c.seats p).task ≡ task.Surveys other → begin_of (c.seats other).place < (c.seats p).current.begin → level c (seat_of other) < level c (seat_of p)
  begin_falls p other at low =
      let x = c.seats p in
      let here = surveys_place x.place x.current other (subst (TaskFits x.place x.current) at (fits_at c sound p)) in
      let is : level c (seat_of p) ≡ 2 * c.shared.tail + x.current.begin =
      ap (level_at c.shared.tail x.current.begin x.place) at ∙ surveys_level c.shared.tail x.current.begin x.place other here in
      let most = most_level c.shared.tail (c.seats other).current.begin (c.seats other).place (c.seats other).task (λ s h. (stamped c sound other s h).2) (raised_at c sound other) in
      omega (arith, is, most, low)

  ring_falls : (p : ℕ) → is_sealed (c.seats p).place ≡ true → ((s : ℕ) → IsSealedAt s (c.seats p).place → c.shared.flushed < s) → level c flush_turn < level c (seat_of p)
  ring_falls p is_here above =
      let here = sealed_place (c.seats p).place is_here in
      let is = stamped_level c.shared.tail (c.seats p).current.begin (c.seats p).place (c.seats p).task here.0 here.1 in
      let less = above here.0 here.1 in
      omega (arith, is, less)

  block_falls : (q : ℕ) → (c.seats q).current.stamp ≡ c.shared.flushed → IsSealing (c.seats q).place ⊎ IsSealedAt (c.seats q).current.stamp (c.seats q).place → level c (seat_of q) < level c flush_turn
  block_falls q starts there =
      ⊎_elim
      (λ (h : IsSealing (c.seats q).place). let none = sealing_level c.shared.tail (c.seats q).current.begin (c.seats q).place (c.seats q).task h in omega (arith, none))
      (λ (h : IsSealedAt (c.seats q).current.stamp (c.seats q).place). let is = stamped_level c.shared.tail (c.seats q).current.begin (c.seats q).place (c.seats q).task (c.seats q).current.stamp h in omega (arith, is, starts))
      there

  -- from the two that the wait names to these
  between : (a b x y : Actor) → a ≡ x → b ≡ y → level c y < level c x → level c b < level c a
  between a b x y is_a is_b less = let ea = ap (level c) is_a in let eb = ap (level c) is_b in omega (arith, ea, eb, less)

  pub falls : (a b : Actor) → WaitsFor c a b → level c b < level c a
  falls a b (for_owner p oid owner is_a is_b at e) = between a b (seat_of p) (seat_of owner) is_a is_b (owner_falls p oid owner at e)
  falls a b (for_overwriter p read owner is_a is_b at e) =
      let here = read_owned_place (c.seats p).place (c.seats p).current read owner (subst (TaskFits (c.seats p).place (c.seats p).current) at (fits_at c sound p)) in
      between a b (seat_of p) (seat_of owner) is_a is_b (settle_falls p owner here (bound_at c p sound (task.ReadOwned read owner) at).1.another e)
  falls a b (for_reader p write bits reader is_a is_b at least e) =
      let here = readers_left_place (c.seats p).place (c.seats p).current write bits (subst (TaskFits (c.seats p).place (c.seats p).current) at (fits_at c sound p)) in
      between a b (seat_of p) (seat_of reader) is_a is_b (settle_falls p reader here (other_reader c sound p write bits reader at least).another e)
  falls a b (for_ring p is_a is_b here rest full) =
      between a b (seat_of p) flush_turn is_a is_b (ring_falls p here (λ s h. full_above c sound p s h full))
  falls a b (for_begin p other is_a is_b at ne some low) = between a b (seat_of p) (seat_of other) is_a is_b (begin_falls p other at low)
  falls a b (for_block q is_a is_b starts none) =
      let some = flushed_positive c sound in
      between a b flush_turn (seat_of q) is_a is_b (block_falls q starts (open_at c sound q (omega (arith, some, starts)) none))

  -- so do chains of them
  chain_falls : (n : ℕ) (a b : Actor) → Chain c n a b → level c b < level c a
  chain_falls zero a b w = falls a b w
  chain_falls (suc n) a b w = let first = falls a w.0 w.1 in let rest = chain_falls n w.0 b w.2 in omega (arith, first, rest)

  pub no_circle : (n : ℕ) (a : Actor) → Chain c n a a → ⊥
  no_circle n a w = let h = chain_falls n a a w in omega (arith, h)
