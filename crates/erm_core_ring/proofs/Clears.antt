-- The flush seat clears the words of the ring that it gathered, and stores flushed.
use Rattle.std.proofs.Common.{◌≡◌, ℕ, ◌+◌, ◌-◌, ◌%◌, ◌<◌, ◌≤◌, ⊎_elim, true, eqb-true, Some, refl, sym, ap, ◌∙◌, subst, arith}
use Rattle.std.proofs.lemmas.Bool.{and_parts, cases_eq, cases_lt, ltb-true}
use Rattle.erm_machine.specs.declared.limits.TheConstants.{RING_WORDS}
use Rattle.erm_machine.specs.declared.part.Flushing.{Flushing}
use Rattle.erm_machine.specs.declared.part.Flushing.TheVariants as flushing
use Rattle.erm_machine.specs.declared.part.Part.{Part}
use Rattle.erm_machine.specs.Core.{Core, Shared}
use Rattle.erm_machine.specs.Flushing.{clear_ring, store_flushed}
use Rattle.erm_machine.specs.Log.{Clearing, InRing, IsEnd, IsFlushing, RingFits, block_word, cleared_to, ring_at}
use Rattle.erm_machine.specs.Sound.{Sound}
use Rattle.erm_machine.specs.Step.{with_ring}
use Rattle.erm_machine.specs.Words.{is_flusher, put}
use Rattle.erm_machine.proofs.Guards.{when_then}
use Rattle.erm_core_ring.proofs.Aside.{Kept}
use Rattle.erm_core_ring.proofs.Fits.{fits_or_bare, gathered_fits}
use Rattle.erm_core_ring.proofs.Flush.{flusher_is, gathering_here, log_here, turned, turned_kept}
use Rattle.erm_core_ring.proofs.Ring.{ring_other, ring_same}

-- a place one ring behind has the same word
one_behind : (place : ℕ) → RING_WORDS ≤ place → (place - RING_WORDS) % RING_WORDS ≡ place % RING_WORDS
one_behind place high = grind arith

-- one more word is cleared
ring_cleared : (s : Shared) (f : ℕ → Part) (at : ℕ) → RingFits s f at → InRing s at → at < s.tail → RingFits (with_ring at 0 s) f (at + 1)
ring_cleared s f at old in_ring below = record {
  beyond = λ place is above. ring_other s at 0 place in_ring is (λ e. omega (arith, e, above, below)) ∙ old.beyond place is above;
  gone = λ place is less.
      ⊎_elim
      (λ (here : place ≡ at). ap (ring_at (with_ring at 0 s)) here ∙ ring_same s at 0)
      (λ (ne : place ≡ at → ⊥). ring_other s at 0 place in_ring is ne ∙ old.gone place is (omega (arith, less, ne)))
      (cases_eq place at);
  blocks = λ q u m drawn k less is behind. ring_other s at 0 (u.stamp + k) in_ring is (λ e. omega (arith, e, behind)) ∙ old.blocks q u m drawn k less is (omega (arith, behind));
}

module _ (c : Core) (sound : Sound c) (p : ℕ) (flusher : is_flusher p ≡ true) where
  -- a word that was gathered is cleared
  cleared_kept : (at to : ℕ) → RingFits c.shared c.seats at → c.shared.flushed ≤ at → at < to → to ≤ (c.seats p).gathered_to → IsEnd c.shared to →
      Kept (record { shared = with_ring at 0 c.shared; seats = put c.seats p (turned (flushing.Clears (at + 1) to) (c.seats p).gathered_to (c.seats p).seen (c.seats p)) })
  cleared_kept at to ring low less gathered whole =
      let log = log_here c sound p flusher in
      let common = sound.common.ranges in
      let up = log.gathered.onward.2 in
      let e = ap (λ n. (c.seats n).gathered_to) (flusher_is c sound p flusher) in
      let fits = gathered_fits c sound to whole (omega (arith, gathered, e)) in
      turned_kept c sound p flusher (with_ring at 0 c.shared) (flushing.Clears (at + 1) to) (c.seats p).gathered_to (c.seats p).seen refl (omega arith)
      (record { positive = common.positive; end_to_end = common.end_to_end; sizes = common.sizes; bounded = common.bounded; below = common.below })
      (record {
        gathered = record { onward = log.gathered.onward; flushed = log.gathered.flushed; whole = log.gathered.whole; decided = log.gathered.decided };
        turn = record { onward = (omega (arith, low), omega (arith, less), gathered); whole = whole };
        ring = ring_cleared c.shared c.seats at ring (low, omega (arith, less, fits)) (omega (arith, less, gathered, up));
      })

  clearing_here : (next to : ℕ) → (c.seats p).flushing ≡ flushing.Clears next to → Clearing c.shared (c.seats p).gathered_to next to
  clearing_here next to at = subst (IsFlushing c.shared c.seats (c.seats p).gathered_to) at (log_here c sound p flusher).turn

  ring_here : (fl : Flushing) → (c.seats p).flushing ≡ fl → RingFits c.shared c.seats (cleared_to c.shared.flushed fl)
  ring_here fl at = subst (λ l. RingFits c.shared c.seats (cleared_to c.shared.flushed l)) at (log_here c sound p flusher).ring

  pub clears : (at : ℕ) (fl : Flushing) (y : Part) → (c.seats p).flushing ≡ fl → clear_ring at (c.seats p) fl ≡ Some y →
      Kept (record { shared = with_ring at 0 c.shared; seats = put c.seats p y })
  clears at (flushing.Gathers tail from block next end) y is e =
      when_then (λ z. Kept (record { shared = with_ring at 0 c.shared; seats = put c.seats p z })) _ _ y e (λ g.
      let a = and_parts _ _ g in
      let b = and_parts _ _ a.0 in
      let d = and_parts _ _ b.0 in
      let here = eqb-true at from d.0 in
      let between = eqb-true next end b.1 in
      let less = ltb-true from next a.1 in
      let gather = gathering_here c sound p flusher tail from block next end is in
      let same = gather.between between in
      let first = gather.from_flushed in
      let up = gather.gathered in
      let place : from ≡ c.shared.flushed = first in
      subst (λ n. Kept (record { shared = with_ring n 0 c.shared; seats = put c.seats p (turned (flushing.Clears (from + 1) next) (c.seats p).gathered_to (c.seats p).seen (c.seats p)) })) (sym here)
      (cleared_kept from next (subst (RingFits c.shared c.seats) (sym place) (ring_here (flushing.Gathers tail from block next end) is)) (omega (arith, place)) less
      (omega (arith, up, same, between)) (subst (IsEnd c.shared) (same ∙ sym between) gather.whole)))
  clears at (flushing.Clears next to) y is e =
      when_then (λ z. Kept (record { shared = with_ring at 0 c.shared; seats = put c.seats p z })) _ _ y e (λ g.
      let a = and_parts _ _ g in
      let d = and_parts _ _ a.0 in
      let here = eqb-true at next d.0 in
      let less = ltb-true next to a.1 in
      let clearing = clearing_here next to is in
      let low = clearing.onward.0 in
      subst (λ n. Kept (record { shared = with_ring n 0 c.shared; seats = put c.seats p (turned (flushing.Clears (next + 1) to) (c.seats p).gathered_to (c.seats p).seen (c.seats p)) })) (sym here)
      (cleared_kept next to (ring_here (flushing.Clears next to) is) (omega (arith, low)) less clearing.onward.2 clearing.whole))
  clears at _ y is e = absurd (cc)

  -- the ring goes on from where it was flushed: the places that come in have no words yet
  module _ (to : ℕ) (is : (c.seats p).flushing ≡ flushing.Clears to to) where
    cleared_ring : RingFits c.shared c.seats to
    cleared_ring = ring_here (flushing.Clears to to) is

    low_enough : to ≤ c.shared.flushed + RING_WORDS
    low_enough =
        let clearing = clearing_here to to is in
        let e = ap (λ n. (c.seats n).gathered_to) (flusher_is c sound p flusher) in
        let up = clearing.onward.2 in
        gathered_fits c sound to clearing.whole (omega (arith, up, e))

    -- a place that comes in
    new_word : (place : ℕ) → c.shared.flushed + RING_WORDS ≤ place → place < to + RING_WORDS → ring_at c.shared place ≡ 0
    new_word place high less =
        let low = low_enough in
        sym (ap c.shared.ring (one_behind place (omega (arith, high)))) ∙ cleared_ring.gone (place - RING_WORDS) (omega (arith, high), omega (arith, less, low)) (omega (arith, high, less))

    flushed_ring : RingFits (record c.shared { flushed = to }) c.seats to
    flushed_ring =
        let past = (clearing_here to to is).onward.0 in
        record {
          beyond = λ place in_ring above.
              ⊎_elim
              (λ (old : place < c.shared.flushed + RING_WORDS). cleared_ring.beyond place (let l = in_ring.0 in omega (arith, past, l), old) above)
              (λ (new : c.shared.flushed + RING_WORDS ≤ place). new_word place new in_ring.1)
              (cases_lt place (c.shared.flushed + RING_WORDS));
          gone = λ place in_ring less. absurd (let l = in_ring.0 in omega (arith, l, less));
          blocks = λ q u m drawn k less in_ring behind.
              ⊎_elim
              (λ (old : u.stamp + k < c.shared.flushed + RING_WORDS). cleared_ring.blocks q u m drawn k less (let l = in_ring.0 in omega (arith, past, l), old) behind)
              (λ (new : c.shared.flushed + RING_WORDS ≤ u.stamp + k).
              ⊎_elim
              (λ (fits : u.stamp + u.size ≤ c.shared.flushed + RING_WORDS). absurd (omega (arith, fits, less, new)))
              (λ (bare : (k : ℕ) → block_word u k ≡ 0). new_word (u.stamp + k) new in_ring.1 ∙ sym (bare k))
              (fits_or_bare c sound q u m drawn))
              (cases_lt (u.stamp + k) (c.shared.flushed + RING_WORDS));
        }

    flushed_kept : Kept (record { shared = record c.shared { flushed = to }; seats = put c.seats p (turned flushing.Still (c.seats p).gathered_to (c.seats p).seen (c.seats p)) })
    flushed_kept =
        let log = log_here c sound p flusher in
        let clearing = clearing_here to to is in
        let common = sound.common.ranges in
        let past = clearing.onward.0 in
        let low = log.gathered.onward.0 in
        turned_kept c sound p flusher (record c.shared { flushed = to }) flushing.Still (c.seats p).gathered_to (c.seats p).seen refl (omega (arith, past))
        (record { positive = common.positive; end_to_end = common.end_to_end; sizes = common.sizes; bounded = common.bounded; below = common.below })
        (record {
          gathered = record {
            onward = (omega (arith, low, past), clearing.onward.2, log.gathered.onward.2);
            flushed = clearing.whole;
            whole = log.gathered.whole;
            decided = log.gathered.decided;
          };
          turn = tt;
          ring = flushed_ring;
        })

  pub stores_flushed : (value : ℕ) (fl : Flushing) (y : Part) → (c.seats p).flushing ≡ fl → store_flushed value (c.seats p) fl ≡ Some y →
      Kept (record { shared = record c.shared { flushed = value }; seats = put c.seats p y })
  stores_flushed value (flushing.Clears next to) y is e =
      when_then (λ z. Kept (record { shared = record c.shared { flushed = value }; seats = put c.seats p z })) _ _ y e (λ g.
      let a = and_parts _ _ g in
      let all = eqb-true next to a.0 in
      let same = eqb-true value to a.1 in
      subst (λ n. Kept (record { shared = record c.shared { flushed = n }; seats = put c.seats p (turned flushing.Still (c.seats p).gathered_to (c.seats p).seen (c.seats p)) })) (sym same)
      (flushed_kept to (is ∙ ap (λ n. flushing.Clears n to) all)))
  stores_flushed value _ y is e = absurd (cc)
