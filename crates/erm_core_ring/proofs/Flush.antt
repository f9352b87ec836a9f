-- Steps of the flush seat's turns.
use Rattle.std.proofs.Common.{◌≡◌, ◌≢◌, ℕ, ◌+◌, ◌-◌, ◌%◌, ◌<◌, ◌≤◌, ⊎_elim, Bool, true, false, ◌&&◌, ltb, eqb-true, max, Some, refl, sym, ap, ◌∙◌, subst, inr, arith}
use Rattle.std.specs.Prelude.{◌==◌}
use Rattle.std.proofs.lemmas.Bool.{and_parts, cases_lt, eqb-false, ltb-true, ltb-false, or_cases}
use Rattle.erm_machine.specs.declared.limits.TheConstants.{FLUSH_SEAT, RING_WORDS}
use Rattle.erm_machine.specs.declared.part.Flushing.{Flushing}
use Rattle.erm_machine.specs.declared.part.Flushing.TheVariants as flushing
use Rattle.erm_machine.specs.declared.part.Part.{Part}
use Rattle.erm_machine.specs.Core.{Core, Shared}
use Rattle.erm_machine.specs.Flushing.{gathered_word, load_ring, size_of}
use Rattle.erm_machine.specs.Life.{is_between}
use Rattle.erm_machine.specs.Log.{DecidedBelow, Gathered, Gathering, IsEnd, IsFlushing, IsRange, LogFits, OwnLog, RingFits, cleared_to, ring_at}
use Rattle.erm_machine.specs.Ranges.{Ranges}
use Rattle.erm_machine.specs.Sound.{Sound}
use Rattle.erm_machine.specs.Words.{is_flusher, put}
use Rattle.erm_machine.proofs.Frames.{each_seat}
use Rattle.erm_machine.proofs.Guards.{either_way, when_then}
use Rattle.erm_core_ring.proofs.Aside.{Kept, blocks_put, log_from, log_put}
use Rattle.erm_core_ring.proofs.Headers.{found_at}
use Rattle.erm_core_ring.proofs.Onward.{same_block}
use Rattle.erm_core_ring.proofs.Own.{KeepsBlocks, keeps_current, other_own}
use Rattle.erm_core_ring.proofs.Spans.{last_end, span_within}

-- the flush seat's part in a turn
abbrev pub turned : Flushing → ℕ → ℕ → Part → Part
turned fl n seen x = record x { flushing = fl; gathered_to = n; seen = seen }

-- between two blocks nothing is cleared
none_cleared : (flushed : ℕ) (fl : Flushing) → is_between fl ≡ true → cleared_to flushed fl ≡ flushed
none_cleared flushed flushing.Still e = refl
none_cleared flushed (flushing.Tail tail) e = refl
none_cleared flushed (flushing.Gathers tail from block next end) e = refl
none_cleared flushed (flushing.Clears next to) e = absurd (cc)

-- a place one ring behind has the same word
one_behind : (place : ℕ) → RING_WORDS ≤ place → (place - RING_WORDS) % RING_WORDS ≡ place % RING_WORDS
one_behind place high = grind arith

module _ (c : Core) (sound : Sound c) (p : ℕ) where
  -- only the flush seat is in a turn
  pub flusher_is : is_flusher p ≡ true → FLUSH_SEAT ≡ p
  flusher_is e = sym (eqb-true p FLUSH_SEAT e)

  by_seat : (fl : Flushing) → (fl ≡ flushing.Still → ⊥) → (c.seats p).flushing ≡ fl → (b : Bool) → is_flusher p ≡ b → is_flusher p ≡ true
  by_seat fl turn at true e = e
  by_seat fl turn at false e = absurd (turn (sym at ∙ (sound.own p).log.still e))

  pub turning : (fl : Flushing) → (fl ≡ flushing.Still → ⊥) → (c.seats p).flushing ≡ fl → is_flusher p ≡ true
  turning fl turn at = by_seat fl turn at (is_flusher p) refl

  module _ (flusher : is_flusher p ≡ true) where
    pub log_here : LogFits c.shared c.seats (c.seats p)
    log_here = subst (λ n. LogFits c.shared c.seats (c.seats n)) (flusher_is flusher) sound.common.log

    pub turned_own : (t : Shared) (fl : Flushing) (n seen : ℕ) → t.run ≡ c.shared.run → c.shared.flushed ≤ t.flushed → OwnLog t p (turned fl n seen (c.seats p))
    turned_own t fl n seen run less =
        let own = (sound.own p).log in
        other_own c.shared t p (turned fl n seen (c.seats p)) run less (record {
          undecided = own.undecided;
          headers = own.headers;
          fits = own.fits;
          fits_now = own.fits_now;
          still = λ other. absurd (cc);
          taken = own.taken;
        })

    turned_blocks : (fl : Flushing) (n seen : ℕ) → KeepsBlocks (c.seats p) (turned fl n seen (c.seats p))
    turned_blocks fl n seen = keeps_current (c.seats p) (turned fl n seen (c.seats p)) refl (λ _. same_block (c.seats p).current (c.seats p).current refl)

    -- a step of a turn, by the log over the seats as they were
    pub turned_kept : (t : Shared) (fl : Flushing) (n seen : ℕ) → t.run ≡ c.shared.run → c.shared.flushed ≤ t.flushed → Ranges t c.seats →
        LogFits t c.seats (turned fl n seen (c.seats p)) → Kept (record { shared = t; seats = put c.seats p (turned fl n seen (c.seats p)) })
    turned_kept t fl n seen run less common log = record {
      shared = log_put t c.seats p (turned fl n seen (c.seats p))
          (λ _. log_from t c.seats (put c.seats p (turned fl n seen (c.seats p))) (turned fl n seen (c.seats p)) common (blocks_put c.seats p (turned fl n seen (c.seats p)) (turned_blocks fl n seen)) log)
          (λ ne. absurd (ne (flusher_is flusher)));
      seats = each_seat (λ q (z : Part). OwnLog t q z) c.seats p (turned fl n seen (c.seats p)) (turned_own t fl n seen run less)
          (λ q _. other_own c.shared t q (c.seats q) run less (sound.own q).log);
    }

    turned_same : (fl : Flushing) (n seen : ℕ) → LogFits c.shared c.seats (turned fl n seen (c.seats p)) → Kept (record { shared = c.shared; seats = put c.seats p (turned fl n seen (c.seats p)) })
    turned_same fl n seen log = turned_kept c.shared fl n seen refl (omega arith) sound.common.ranges log

    -- a gather begins: the tail, and then flushed
    pub tail_kept : is_between (c.seats p).flushing ≡ true → Kept (record { shared = c.shared; seats = put c.seats p (turned (flushing.Tail c.shared.tail) (c.seats p).gathered_to c.shared.tail (c.seats p)) })
    tail_kept between = turned_same (flushing.Tail c.shared.tail) (c.seats p).gathered_to c.shared.tail (record {
      gathered = log_here.gathered;
      turn = record { past = omega arith; whole = last_end c.shared.opening c.shared.tail c.shared.log sound.common.ranges.end_to_end };
      ring = subst (RingFits c.shared c.seats) (none_cleared c.shared.flushed (c.seats p).flushing between) log_here.ring;
    })

    pub flushed_kept : (tail : ℕ) → (c.seats p).flushing ≡ flushing.Tail tail →
        Kept (record { shared = c.shared; seats = put c.seats p (turned (flushing.Gathers tail c.shared.flushed c.shared.flushed c.shared.flushed c.shared.flushed) (c.seats p).gathered_to (c.seats p).seen (c.seats p)) })
    flushed_kept tail at =
        let log = log_here in
        turned_same (flushing.Gathers tail c.shared.flushed c.shared.flushed c.shared.flushed c.shared.flushed) (c.seats p).gathered_to (c.seats p).seen (record {
          gathered = log.gathered;
          turn = record {
            from_flushed = refl;
            seen = subst (IsFlushing c.shared c.seats (c.seats p).gathered_to) at log.turn;
            onward = (omega arith, omega arith, omega arith);
            gathered = log.gathered.onward.1;
            whole = log.gathered.flushed;
            between = λ _. refl;
            in_hand = λ less. absurd (omega (arith, less));
          };
          ring = subst (λ fl. RingFits c.shared c.seats (cleared_to c.shared.flushed fl)) at log.ring;
        })

    -- a word of the range in hand is loaded
    module _ (tail from block next end : ℕ) (at : (c.seats p).flushing ≡ flushing.Gathers tail from block next end) where
      pub gathering_here : Gathering c.shared c.seats (c.seats p).gathered_to tail from block next end
      gathering_here = subst (IsFlushing c.shared c.seats (c.seats p).gathered_to) at log_here.turn

      uncleared : RingFits c.shared c.seats c.shared.flushed
      uncleared = subst (λ fl. RingFits c.shared c.seats (cleared_to c.shared.flushed fl)) at log_here.ring

      module _ (begin next_end : ℕ) (onward : (from ≤ begin) × (begin ≤ next) × (next < next_end)) (gathered : begin ≤ (c.seats p).gathered_to) (whole : IsEnd c.shared begin)
          (below : begin < tail) (range : IsRange c.shared begin next_end) (decided : DecidedBelow c.seats next_end) where
        range_ends : IsEnd c.shared next_end
        range_ends = inr (range.0, range.1, range.3)

        range_low : next_end ≤ c.shared.tail
        range_low = let h = (span_within c.shared.opening c.shared.tail c.shared.log sound.common.ranges.end_to_end range.0 range.1).1 in let e = range.3 in omega (arith, h, e)

        -- it was the last one
        last_word : (n : ℕ) → Gathered c.shared c.seats n → next_end ≤ n → Kept (record { shared = c.shared; seats = put c.seats p (turned (flushing.Gathers tail from next_end next_end next_end) n (c.seats p).seen (c.seats p)) })
        last_word n whole_to enough = turned_same (flushing.Gathers tail from next_end next_end next_end) n (c.seats p).seen (record {
          gathered = whole_to;
          turn = record {
            from_flushed = gathering_here.from_flushed;
            seen = gathering_here.seen;
            onward = (let a = onward.0 in let b = onward.1 in let d = onward.2 in omega (arith, a, b, d), omega arith, omega arith);
            gathered = enough;
            whole = range_ends;
            between = λ _. refl;
            in_hand = λ less. absurd (omega (arith, less));
          };
          ring = uncleared;
        })

        gathered_max : Kept (record { shared = c.shared; seats = put c.seats p (turned (flushing.Gathers tail from next_end next_end next_end) (max (c.seats p).gathered_to next_end) (c.seats p).seen (c.seats p)) })
        gathered_max =
            let old = log_here.gathered in
            let n = (c.seats p).gathered_to in
            ⊎_elim
            (λ (less : n < next_end).
            let same : max n next_end ≡ next_end = omega (arith, less) in
            subst (λ k. Kept (record { shared = c.shared; seats = put c.seats p (turned (flushing.Gathers tail from next_end next_end next_end) k (c.seats p).seen (c.seats p)) })) (sym same)
            (last_word next_end (record {
              onward = (old.onward.0, let a = old.onward.1 in omega (arith, a, less), range_low);
              flushed = old.flushed;
              whole = range_ends;
              decided = decided;
            }) (omega arith)))
            (λ (enough : next_end ≤ n).
            let same : max n next_end ≡ n = omega (arith, enough) in
            subst (λ k. Kept (record { shared = c.shared; seats = put c.seats p (turned (flushing.Gathers tail from next_end next_end next_end) k (c.seats p).seen (c.seats p)) })) (sym same)
            (last_word n old enough))
            (cases_lt n next_end)

        more_words : ((next + 1) == next_end) ≡ false → Kept (record { shared = c.shared; seats = put c.seats p (turned (flushing.Gathers tail from begin (next + 1) next_end) (c.seats p).gathered_to (c.seats p).seen (c.seats p)) })
        more_words more = turned_same (flushing.Gathers tail from begin (next + 1) next_end) (c.seats p).gathered_to (c.seats p).seen (record {
          gathered = log_here.gathered;
          turn = record {
            from_flushed = gathering_here.from_flushed;
            seen = gathering_here.seen;
            onward = (onward.0, let b = onward.1 in omega (arith, b), let d = onward.2 in omega (arith, d));
            gathered = gathered;
            whole = whole;
            between = λ e. absurd (eqb-false (next + 1) next_end more e);
            in_hand = λ _. record { onward = (let b = onward.1 in omega (arith, b), below); range = range; decided = decided };
          };
          ring = uncleared;
        })

        pub word_kept : Kept (record { shared = c.shared; seats = put c.seats p (gathered_word tail from begin next next_end (c.seats p)) })
        word_kept = either_way (λ z. Kept (record { shared = c.shared; seats = put c.seats p z })) ((next + 1) == next_end) _ _ (λ _. gathered_max) more_words

      -- a header that isn't 0
      found_kept : next ≡ end → next < tail → next < c.shared.flushed + RING_WORDS → (found : ℕ) → found ≡ ring_at c.shared next → found ≢ 0 →
          Kept (record { shared = c.shared; seats = put c.seats p (gathered_word tail from next next (next + size_of found) (c.seats p)) })
      found_kept between below near found is some =
          let g = gathering_here in
          let same : next ≡ block = between ∙ sym (g.between between) in
          let low = g.onward.0 in
          let e = g.from_flushed in
          let past = g.seen.past in
          let flush = flusher_is flusher in
          let up = g.gathered in
          let whole : IsEnd c.shared next = subst (IsEnd c.shared) (sym same) g.whole in
          let nothing : cleared_to c.shared.flushed (c.seats FLUSH_SEAT).flushing ≡ c.shared.flushed =
          ap (λ n. cleared_to c.shared.flushed (c.seats n).flushing) flush ∙ ap (cleared_to c.shared.flushed) at
          in
          let up_here : (c.seats FLUSH_SEAT).gathered_to ≡ (c.seats p).gathered_to = ap (λ n. (c.seats n).gathered_to) flush in
          let f = found_at c sound next whole (omega (arith, below, past)) (omega (arith, low, e, same), near) (omega (arith, nothing, low, e, same)) (omega (arith, up, up_here, same)) (λ z. some (is ∙ z)) in
          let long : next < next + size_of (ring_at c.shared next) =
          let r = f.range in
          let s = (sound.common.ranges.sizes r.0 r.1).0 in
          let starts = r.2 in
          let ends = r.3 in
          omega (arith, s, starts, ends)
          in
          subst (λ n. Kept (record { shared = c.shared; seats = put c.seats p (gathered_word tail from next next (next + size_of n) (c.seats p)) })) (sym is)
          (word_kept next (next + size_of (ring_at c.shared next)) (omega (arith, low, same), omega arith, long) (omega (arith, up, same)) whole below f.range f.decided)

      pub ring_kept : (place : ℕ) (y : Part) → load_ring place (ring_at c.shared place) (c.seats p) (flushing.Gathers tail from block next end) ≡ Some y →
          Kept (record { shared = c.shared; seats = put c.seats p y })
      ring_kept place y e =
          when_then (λ z. Kept (record { shared = c.shared; seats = put c.seats p z })) _ _ y e (λ g.
          let a = and_parts _ _ g in
          let here = eqb-true place next (and_parts _ _ a.0).0 in
          either_way (λ z. Kept (record { shared = c.shared; seats = put c.seats p z })) (ltb next end) _ _
          (λ inside.
          let less = ltb-true next end inside in
          let h = gathering_here.in_hand less in
          let o = gathering_here.onward in
          word_kept block end (o.0, o.1, less) gathering_here.gathered gathering_here.whole h.onward.1 h.range h.decided)
          (λ outside.
          let more = ltb-false next end outside in
          let between : next ≡ end = let o = gathering_here.onward.2 in omega (arith, more, o) in
          either_way (λ z. Kept (record { shared = c.shared; seats = put c.seats p z })) (ring_at c.shared place == 0) _ _
          (λ _. turned_same (c.seats p).flushing (c.seats p).gathered_to (c.seats p).seen log_here)
          (λ some.
          ⊎_elim
          (λ (inside : ltb next end ≡ true). absurd (let l = ltb-true next end inside in omega (arith, l, between)))
          (λ (room : (ltb next tail && ltb (next - from) RING_WORDS) ≡ true).
          let r = and_parts _ _ room in
          let below = ltb-true next tail r.0 in
          let near = ltb-true (next - from) RING_WORDS r.1 in
          let e = gathering_here.from_flushed in
          let low = gathering_here.onward in
          let l = low.0 in
          let m = low.1 in
          found_kept between below (omega (arith, near, e, l, m)) (ring_at c.shared place) (ap (ring_at c.shared) here) (eqb-false (ring_at c.shared place) 0 some))
          (or_cases (ltb next end) (ltb next tail && ltb (next - from) RING_WORDS) a.1))))
