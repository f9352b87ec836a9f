-- A gather: word by word, and what is gathered at its end.
use Rattle.std.proofs.Common.{◌≡◌, ◌≢◌, ℕ, ◌+◌, ◌^◌, ◌<◌, ◌≤◌, ◌⊎◌, ⊎_elim, true, false, not, List, [], length, take, get_or, set, Option, Some, is_some, unwrap_or, refl, sym, ap, ◌∙◌, subst, inl, inr, arith, get_or-set_same, get_or-set_other}
use Rattle.std.specs.Prelude.{IsSome}
use Rattle.std.proofs.lemmas.Bool.{cases_eq, cases_lt}
use Rattle.std.proofs.lemmas.List.{get_or-take, length-take-le}
use Rattle.erm_machine.specs.declared.event.Kind.{Kind}
use Rattle.erm_machine.specs.declared.event.Kind.TheVariants as kind
use Rattle.erm_machine.specs.declared.event.TailUse.TheVariants as purpose
use Rattle.erm_machine.specs.declared.limits.TheConstants.{RING_WORDS}
use Rattle.erm_machine.specs.declared.part.Flushing.{Flushing}
use Rattle.erm_machine.specs.declared.part.Flushing.TheVariants as flushing
use Rattle.erm_machine.specs.declared.part.Part.{Part}
use Rattle.erm_machine.specs.declared.place.Place.{Place}
use Rattle.erm_machine.specs.declared.place.Place.TheVariants.{Vacant}
use Rattle.erm_machine.specs.Core.{Core, spot_of, word_at, fresh_part}
use Rattle.erm_machine.specs.Flushing.{load_ring, size_of}
use Rattle.erm_machine.specs.Life.{is_between}
use Rattle.erm_machine.specs.Log.{Gathering, IsEnd, IsFlushing}
use Rattle.erm_machine.specs.Seat.{is_vacant}
use Rattle.erm_machine.specs.Sound.{Sound}
use Rattle.erm_machine.specs.Step.{after_event, part_after}
use Rattle.erm_core_blocks.specs.Spelled.{AreSpelled}
use Rattle.erm_core_ring.proofs.Fits.{decided_fits}
use Rattle.erm_core_ring.proofs.Spans.{end_apart, range_held}
use Rattle.erm_core_flush.specs.Turns.{GathersNoMore, GathersOn, IsOpenAt, LogWord, MayGather, turn_of}
use Rattle.erm_core_flush.proofs.Stays.{words_stay}
use Rattle.erm_core_flush.proofs.Turns.{flushed_turns, tail_turns, word_turns}
use Rattle.erm_core_flush.proofs.Whole.{whole}
use Rattle.erm_model.specs.RowTransaction.{Law}
use Rattle.erm_rule.specs.declared.view.Book.{Book}
use Rattle.erm_rule.specs.declared.view.View.{View}
use Rattle.erm_rule.specs.Books.{IsBookOf, IsLater, Passes, WasSeen}
use Rattle.erm_rule.specs.Hands.{IsKnown}
use Rattle.erm_rule.specs.Steps.{Booked, Ready, Told}
use Rattle.erm_rule.specs.Views.{IsView, part_in, part_of, with_part}
use Rattle.erm_rule.proofs.Courses.{later_on, onward, seen_then}
use Rattle.erm_rule.proofs.Numbered.{known_after}
use Rattle.erm_rule.proofs.Allowed.{some_of}
use Rattle.erm_rule.proofs.Telling.{changed_here}
use Rattle.erm_cells.proofs.Views.{both, told_is, told_next, when_true}
use Rattle.erm_ring.specs.Turns.{Began, DidGather, Gathers, HasBlocks, NextIs, WasOpen, gathered_part}
use Rattle.erm_world.specs.declared.gathered.Gathered.{Gathered}
use Rattle.erm_world.specs.declared.gathered.Gathered.TheVariants.{Empty, Unfilled, Words}
use Rattle.erm_ring.specs.Turns as ring
use Rattle.erm_ring.proofs.Turning.{F, IsClearing, block_after, flushed_kept, gathering_part, header_part, middle_part, ready_turns, starts_at, tail_part, zero_part}

-- a view that has the flush seat has this part of it
pub has_part : (v : View) → IsSome (part_in v F) → part_in v F ≡ Some (part_of v F)
has_part v has =
    let x = some_of (part_in v F) has in
    x.1 ∙ ap (λ (o : Option Part). Some (unwrap_or o (fresh_part Vacant 0 0))) (sym x.1)

taken_place : (pl : Place) → pl ≢ Vacant → is_vacant pl ≡ false
taken_place Vacant taken = absurd (taken refl)
taken_place _ taken = refl

pub flush_taken : (c : Core) → Sound c → is_vacant (c.seats F).place ≡ false
flush_taken c sound = taken_place (c.seats F).place ((sound.own F).log.taken refl)

-- what the pass knows after a booked step
abbrev pub booked_known : (law : Law) (b : Book) (who : ℕ) (k : Kind) (found : ℕ) (e : Book) → Booked law b who k found e → IsKnown e.view
booked_known law b who k found e booked = record {
  core = booked.under.told.after;
  sound = booked.under.told.sound_after;
  cuts = booked.under.told.cuts_after;
  is_view = booked.under.told.is_view_after;
  limit = booked.under.told.limit_after;
  in_order = (known_after b.view who k found e.view booked.under.told).in_order;
}

pub booked_is : (law : Law) (b : Book) (who : ℕ) (k : Kind) (found : ℕ) (e : Book) → (booked : Booked law b who k found e) → IsBookOf e booked.under.told.after
booked_is law b who k found e booked = record { sound = booked.under.told.sound_after; is_view = booked.under.told.is_view_after; course = booked.course_after }

-- so it is of each state of the book
pub onward_in : (law : Law) (P : Core → Type 0) (b : Book) (who : ℕ) (k : Kind) (found : ℕ) (e : Book) → Booked law b who k found e → ((c d : Core) → IsView e.view c → Passes c d → P c → P d) →
    ((c d : Core) → IsBookOf b c → word_at c (spot_of who k) ≡ found → after_event c who k ≡ Some d → P d) → (c : Core) → IsBookOf e c → P c
onward_in law P b who k found e booked stays begins c is =
    onward P b who k found e.view stays begins c (subst (λ (z : Book). IsBookOf z c) booked.book_is is)

-- BEGIN. The tail is loaded where a gather may begin, and then the place flushed.
pub tail_ready : (v : View) → ring.MayGather v → Ready v F (kind.LoadTail purpose.Gather)
tail_ready v may = ready_turns v (kind.LoadTail purpose.Gather) tt (λ c sound is. (
  flushing.Tail c.shared.tail,
  tail_turns c sound (subst (λ (z : Part). is_between z.flushing ≡ true) (sym (is F (part_of v F) (has_part v may.held))) may.between),
))

module _ (b : Book) (may : ring.MayGather b.view) where
  abbrev pub own : Part
  own = part_of b.view F

  pub has : part_in b.view F ≡ Some own
  has = has_part b.view may.held

  pub tail_view : (tail : ℕ) (w : View) → Told b.view F (kind.LoadTail purpose.Gather) tail w → w ≡ with_part F (tail_part tail own) b.view
  tail_view tail w told =
      told_is b.view F (kind.LoadTail purpose.Gather) tail w own (tail_part tail own) has told
      (when_true _ _ (both _ _ (ap not (subst (λ (z : Part). is_vacant z.place ≡ false) (told.is_view F own has) (flush_taken told.before told.sound))) may.between))

  -- the tail was this in a state of the book, and what was synced then still is all that is
  pub record HasTail (tail : ℕ) (c : Core) : Type 0 where
    pub state : Core
    pub is : IsBookOf b state
    pub tail_is : state.shared.tail ≡ tail
    pub same : state.shared.flushed ≡ c.shared.flushed
    pub later : IsLater state c

  module _ (law : Law) (tail : ℕ) (e : Book) (first : Booked law b F (kind.LoadTail purpose.Gather) tail e) where
    view_then : e.view ≡ with_part F (tail_part tail own) b.view
    view_then = tail_view tail e.view first.under.told

    part_then : part_in e.view F ≡ Some (tail_part tail own)
    part_then = changed_here b.view F e.view (tail_part tail own) own has view_then

    turn_then : (c : Core) → IsView e.view c → turn_of c ≡ flushing.Tail tail
    turn_then c is = ap (λ (z : Part). z.flushing) (is F (tail_part tail own) part_then)

    tail_kept : (c d : Core) → IsView e.view c → Passes c d → HasTail tail c → HasTail tail d
    tail_kept c d is passes t = record {
      state = t.state;
      is = t.is;
      tail_is = t.tail_is;
      same = t.same ∙ sym (flushed_kept c passes.1.0 passes.1.1 d passes.0 (λ clears. subst IsClearing (turn_then c is) clears) passes.1.2);
      later = later_on t.state c d passes t.later;
    }

    tail_begins : (c d : Core) → IsBookOf b c → word_at c (spot_of F (kind.LoadTail purpose.Gather)) ≡ tail → after_event c F (kind.LoadTail purpose.Gather) ≡ Some d → HasTail tail d
    tail_begins c d is met event = record {
      state = c;
      is = is;
      tail_is = met;
      same = sym (flushed_kept c F (kind.LoadTail purpose.Gather) d is.sound (λ clears. not_clearing own.flushing may.between (subst IsClearing (ap (λ (z : Part). z.flushing) (is.is_view F own has)) clears)) event);
      later = (1, (c, refl, (is.sound, (F, kind.LoadTail purpose.Gather, event))));
    }
      where
        not_clearing : (f : Flushing) → is_between f ≡ true → IsClearing f → ⊥
        not_clearing (flushing.Clears next to) e is = cc
        not_clearing _ e is = is

    pub has_tail : (c : Core) → IsBookOf e c → HasTail tail c
    has_tail = onward_in law (HasTail tail) b F (kind.LoadTail purpose.Gather) tail e first tail_kept tail_begins

    pub flushed_ready : Ready e.view F kind.LoadFlushed
    flushed_ready = ready_turns e.view kind.LoadFlushed tt (λ c sound is. (_, flushed_turns c sound tail (turn_then c is)))

    pub flushed_held : IsSome (part_in e.view F)
    flushed_held = ap (λ (o : Option Part). is_some o) part_then

-- THE LOOP. So many words from `from` on are gathered, of a block that ends at `end`, or the next word is a header.
pub record GatherLoop (b : Book) (tail from count end : ℕ) (words : List ℕ) (e : Book) : Type 0 where
  pub block : ℕ
  pub view_is : e.view ≡ with_part F (gathering_part tail from block (from + count) end (part_of b.view F)) b.view
  pub known : IsKnown e.view
  pub is : IsBookOf e known.core
  pub spelled : AreSpelled known.core
  pub began : (c : Core) → IsBookOf e c → Began b tail from c
  pub loaded : (c : Core) → IsBookOf e c → (k : ℕ) → k < count → LogWord c.seats (from + k) (get_or words k 0)

-- what events keep of a state that was met
pub began_kept : (b : Book) (tail from : ℕ) (c d : Core) → Passes c d → Began b tail from c → Began b tail from d
began_kept b tail from c d passes t = record {
  state = t.state;
  is = t.is;
  tail_is = t.tail_is;
  flushed_is = t.flushed_is;
  later = later_on t.state c d passes t.later;
}

word_kept : (place word : ℕ) (c d : Core) → Passes c d → LogWord c.seats place word → LogWord d.seats place word
word_kept place word c d passes w = words_stay c d passes.1.0 place word passes.1.1 passes.0 passes.1.2 w

module _ (b : Book) (may : ring.MayGather b.view) (law : Law) (tail from : ℕ) (e f : Book)
    (first : Booked law b F (kind.LoadTail purpose.Gather) tail e) (second : Booked law e F kind.LoadFlushed from f) where
  abbrev x : Part
  x = part_of b.view F

  flushed_began : (c d : Core) → IsBookOf e c → word_at c (spot_of F kind.LoadFlushed) ≡ from → after_event c F kind.LoadFlushed ≡ Some d → Began b tail from d
  flushed_began c d is met event =
      let t = has_tail b may law tail e first c is in
      record {
        state = t.state;
        is = t.is;
        tail_is = t.tail_is;
        flushed_is = t.same ∙ met;
        later = later_on t.state c d (is.sound, (F, kind.LoadFlushed, event)) t.later;
      }

  pub gather_starts : (words : List ℕ) → GatherLoop b tail from 0 from words f
  gather_starts words = record {
    block = from;
    view_is =
        told_next b.view F kind.LoadFlushed from e.view f.view (tail_part tail x) x _ (has b may) (view_then b may law tail e first) second.under.told refl
        ∙ ap (λ (z : Part). with_part F z b.view) (starts_at tail from x low)
        ∙ ap (λ (n : ℕ). with_part F (gathering_part tail from from n from x) b.view) none_yet;
    known = booked_known law e F kind.LoadFlushed from f second;
    is = booked_is law e F kind.LoadFlushed from f second;
    spelled = second.under.spelled_after;
    began = onward_in law (Began b tail from) e F kind.LoadFlushed from f second (λ c d _ passes t. began_kept b tail from c d passes t) flushed_began;
    loaded = λ c is k less. absurd (omega (arith, less));
  }
    where
      none_yet : from ≡ from + 0
      none_yet = omega arith

      low : from ≤ x.gathered_to
      low =
          let told = second.under.told in
          let here : told.before.seats F ≡ tail_part tail x = told.is_view F (tail_part tail x) (part_then b may law tail e first) in
          let above : told.before.shared.flushed ≤ (told.before.seats F).gathered_to = told.sound.common.log.gathered.onward.1 in
          let met : told.before.shared.flushed ≡ from = told.met in
          let same : (told.before.seats F).gathered_to ≡ x.gathered_to = ap (λ (z : Part). z.gathered_to) here in
          omega (arith, above, met, same)

-- A TURN OF THE LOOP
module _ (b : Book) (has : part_in b.view F ≡ Some (part_of b.view F)) (tail from count end : ℕ) (words : List ℕ) (e : Book) (loop : GatherLoop b tail from count end words e) where
  abbrev o : Part
  o = part_of b.view F

  abbrev at : ℕ
  at = from + count

  abbrev y : Part
  y = gathering_part tail from loop.block at end o

  part_here : part_in e.view F ≡ Some y
  part_here = changed_here b.view F e.view y o has loop.view_is

  pub loop_held : IsSome (part_in e.view F)
  loop_held = ap (λ (z : Option Part). is_some z) part_here

  turn_here : (c : Core) → IsView e.view c → turn_of c ≡ flushing.Gathers tail from loop.block at end
  turn_here c is = ap (λ (z : Part). z.flushing) (is F y part_here)

  gathering_here : (c : Core) → Sound c → IsView e.view c → Gathering c.shared c.seats (c.seats F).gathered_to tail from loop.block at end
  gathering_here c sound is = subst (IsFlushing c.shared c.seats (c.seats F).gathered_to) (turn_here c is) sound.common.log.turn

  -- the place is within the log, and at most the end of the block in hand
  pub at_low : at < 2 ^ 62
  at_low =
      let c = loop.known.core in
      let g = gathering_here c loop.known.sound loop.known.is_view in
      let sound = loop.known.sound in
      let high = sound.common.ranges.below in
      let onward = sound.common.log.gathered.onward.2 in
      let next = g.onward.2 in
      ⊎_elim
      (λ (inside : at < end).
      let h = g.in_hand inside in
      let r = h.range in
      let last = r.3 in
      let start = r.2 in
      let begins = h.onward.1 in
      let past : r.0.start + r.0.size ≤ tail = end_apart c.shared.opening c.shared.tail c.shared.log sound.common.ranges.end_to_end tail g.seen.whole r.0 r.1 (omega (arith, begins, start)) in
      let old = g.seen.past in
      omega (arith, inside, last, past, old, high))
      (λ (outside : end ≤ at).
      let same : at ≡ end = omega (arith, outside, next) in
      let block = g.between same in
      let up = g.gathered in
      omega (arith, same, block, up, onward, high))
      (cases_lt at end)

  pub at_most : at ≤ end
  at_most = (gathering_here loop.known.core loop.known.sound loop.known.is_view).onward.2

  pub between_is : end ≤ at → loop.block ≡ at
  between_is outside =
      let g = gathering_here loop.known.core loop.known.sound loop.known.is_view in
      let next = g.onward.2 in
      let same : at ≡ end = omega (arith, outside, next) in
      g.between same ∙ sym same

  may_gather : count < RING_WORDS → (at < end) ⊎ (at < tail) → MayGather tail from at end
  may_gather room may = ⊎_elim (λ (inside : at < end). inl inside) (λ (below : at < tail). inr (below, omega (arith, room))) may

  pub word_ready : count < RING_WORDS → (at < end) ⊎ (at < tail) → Ready e.view F (kind.LoadRing at)
  word_ready room may = ready_turns e.view (kind.LoadRing at) tt (λ c sound is.
      ⊎_elim (λ (on : GathersOn c tail from loop.block at end). (on.to, on.on)) (λ (none : GathersNoMore c at end). (_, none.stays))
      (word_turns c sound tail from loop.block at end (turn_here c is) (may_gather room may)))

  -- at the ring's end it is between two blocks
  pub ring_end : count ≡ RING_WORDS → end ≤ at
  ring_end full =
      let c = loop.known.core in
      let sound = loop.known.sound in
      let g = gathering_here c sound loop.known.is_view in
      ⊎_elim
      (λ (inside : at < end).
      let h = g.in_hand inside in
      let r = h.range in
      let held = range_held c.shared r.0 (c.seats r.0.seat) (sound.own r.0.seat).ranges r.1 in
      let starts = held.starts in
      let long = held.long in
      let first = r.2 in
      let last = r.3 in
      let over = h.onward.0 in
      let decided = h.decided r.0.seat held.holder held.stands held.drawn (omega (arith, starts, first, over, inside)) in
      let fits = decided_fits c sound r.0.seat held.holder held.stands held.drawn decided.0 in
      let from_is = g.from_flushed in
      absurd (omega (arith, full, fits, from_is, starts, long, first, last, inside)))
      (λ (outside : end ≤ at). outside)
      (cases_lt at end)

  module _ (law : Law) (word to : ℕ) (f : Book) (booked : Booked law e F (kind.LoadRing at) word f) where
    -- the state before the load, of which the book is one
    before_is : IsBookOf e booked.under.told.before
    before_is = record { sound = booked.under.told.sound; is_view = booked.under.told.is_view; course = booked.course }

    loads : part_after F (kind.LoadRing at) word booked.under.told.before.shared y ≡ Some booked.under.told.part
    loads = subst (λ (z : Part). part_after F (kind.LoadRing at) word booked.under.told.before.shared z ≡ Some booked.under.told.part) (booked.under.told.is_view F y part_here) booked.under.told.part_is

    -- the view, by the flush seat's part after the load
    view_by : (z : Part) → booked.under.told.part ≡ z → f.view ≡ with_part F z b.view
    view_by z is = told_next b.view F (kind.LoadRing at) word e.view f.view y o z has loop.view_is booked.under.told (loads ∙ ap Some is)

    module _ (is : NextIs at end word to) (low : count < length words) (room : count < RING_WORDS) (may : (at < end) ⊎ (at < tail)) where
      new_word : (c d : Core) → IsBookOf e c → word_at c (spot_of F (kind.LoadRing at)) ≡ word → after_event c F (kind.LoadRing at) ≡ Some d → LogWord d.seats at word
      new_word c d of met event =
          ⊎_elim
          (λ (on : GathersOn c tail from loop.block at end). word_kept at word c d (of.sound, (F, kind.LoadRing at, event)) (subst (LogWord c.seats at) met on.word))
          (λ (none : GathersNoMore c at end).
          let between = none.between in
          absurd ((is.header (omega (arith, between))).0 (sym met ∙ none.zero)))
          (word_turns c of.sound tail from loop.block at end (turn_here c of.is_view) (may_gather room may))

      -- the words gathered before
      old_words : (k : ℕ) → k < count → (c : Core) → IsBookOf f c → LogWord c.seats (from + k) (get_or words k 0)
      old_words k less =
          onward_in law (λ c. LogWord c.seats (from + k) (get_or words k 0)) e F (kind.LoadRing at) word f booked (λ c d _ passes w. word_kept (from + k) (get_or words k 0) c d passes w)
          (λ c d of met event. word_kept (from + k) (get_or words k 0) c d (of.sound, (F, kind.LoadRing at, event)) (loop.loaded c of k less))

      all_words : (c : Core) → IsBookOf f c → (k : ℕ) → k < count + 1 → LogWord c.seats (from + k) (get_or (set words count word) k 0)
      all_words c of k less =
          ⊎_elim
          (λ (last : k ≡ count).
          subst (λ (n : ℕ). LogWord c.seats (from + n) (get_or (set words count word) n 0)) (sym last)
          (subst (LogWord c.seats at) (sym (get_or-set_same words count word 0 low))
          (onward_in law (λ d. LogWord d.seats at word) e F (kind.LoadRing at) word f booked (λ d g _ passes w. word_kept at word d g passes w) new_word c of)))
          (λ (other : k ≡ count → ⊥).
          subst (LogWord c.seats (from + k)) (sym (get_or-set_other words count k word 0 other)) (old_words k (below_by k count less other) c of))
          (cases_eq k count)
        where
          below_by : (k n : ℕ) → k < n + 1 → (k ≡ n → ⊥) → k < n
          below_by k n less other = grind arith

      next_part : (block : ℕ) × (booked.under.told.part ≡ gathering_part tail from block (at + 1) to o)
      next_part =
          ⊎_elim
          (λ (inside : at < end). (
            block_after loop.block at end,
            middle_part tail from loop.block at end word o booked.under.told.part inside block_low loads
                ∙ ap (λ (n : ℕ). gathering_part tail from (block_after loop.block at end) (at + 1) n o) (sym (is.middle inside)),
          ))
          (λ (outside : end ≤ at).
          let h = is.header outside in
          let next = at_most in
          let same : end ≡ at = omega (arith, outside, next) in (
            block_after at at (at + size_of word),
            header_part tail from at word o booked.under.told.part h.0
                (subst (λ (n : ℕ). load_ring at word (gathering_part tail from n at at o) (flushing.Gathers tail from n at at) ≡ Some booked.under.told.part) (between_is outside)
                (subst (λ (n : ℕ). load_ring at word (gathering_part tail from loop.block at n o) (flushing.Gathers tail from loop.block at n) ≡ Some booked.under.told.part) same loads))
                ∙ ap (λ (n : ℕ). gathering_part tail from (block_after at at (at + size_of word)) (at + 1) n o) (sym h.1),
          ))
          (cases_lt at end)
        where
          block_low : loop.block ≤ end
          block_low = let g = gathering_here loop.known.core loop.known.sound loop.known.is_view in let a = g.onward.1 in let c = g.onward.2 in omega (arith, a, c)

      pub gather_goes_on : GatherLoop b tail from (count + 1) to (set words count word) f
      gather_goes_on =
          let next = next_part in
          record {
            block = next.0;
            view_is = view_by _ next.1 ∙ ap (λ (n : ℕ). with_part F (gathering_part tail from next.0 n to o) b.view) more;
            known = booked_known law e F (kind.LoadRing at) word f booked;
            is = booked_is law e F (kind.LoadRing at) word f booked;
            spelled = booked.under.spelled_after;
            began =
                onward_in law (Began b tail from) e F (kind.LoadRing at) word f booked (λ c d _ passes t. began_kept b tail from c d passes t)
                (λ c d of met event. began_kept b tail from c d (of.sound, (F, kind.LoadRing at, event)) (loop.began c of));
            loaded = all_words;
          }
        where
          more : from + count + 1 ≡ from + (count + 1)
          more = omega arith

  -- A HEADER THAT IS 0 leaves the loop where it is, and the range that begins there wasn't decided.
  module _ (law : Law) (f : Book) (zeros : Booked law e F (kind.LoadRing at) 0 f) (stop : end ≤ at) (below : at < tail) (room : count < RING_WORDS) where
    same_end : end ≡ at
    same_end = let next = at_most in omega (arith, stop, next)

    zero_is : zeros.under.told.part ≡ y
    zero_is =
        zero_part tail from at o zeros.under.told.part
        (subst (λ (n : ℕ). load_ring at 0 (gathering_part tail from n at at o) (flushing.Gathers tail from n at at) ≡ Some zeros.under.told.part) (between_is stop)
        (subst (λ (n : ℕ). load_ring at 0 (gathering_part tail from loop.block at n o) (flushing.Gathers tail from loop.block at n) ≡ Some zeros.under.told.part) same_end
        (loads law 0 0 f zeros)))
        ∙ ap (λ (n : ℕ). gathering_part tail from n at at o) (sym (between_is stop))
        ∙ ap (λ (n : ℕ). gathering_part tail from loop.block at n o) (sym same_end)

    pub zero_stays : GatherLoop b tail from count end words f
    zero_stays = record {
      block = loop.block;
      view_is = view_by law 0 0 f zeros y zero_is;
      known = booked_known law e F (kind.LoadRing at) 0 f zeros;
      is = booked_is law e F (kind.LoadRing at) 0 f zeros;
      spelled = zeros.under.spelled_after;
      began =
          onward_in law (Began b tail from) e F (kind.LoadRing at) 0 f zeros (λ c d _ passes t. began_kept b tail from c d passes t)
          (λ c d of met event. began_kept b tail from c d (of.sound, (F, kind.LoadRing at, event)) (loop.began c of));
      loaded = λ c of k less.
          onward_in law (λ d. LogWord d.seats (from + k) (get_or words k 0)) e F (kind.LoadRing at) 0 f zeros (λ d g _ passes w. word_kept (from + k) (get_or words k 0) d g passes w)
          (λ d g from_of met event. word_kept (from + k) (get_or words k 0) d g (from_of.sound, (F, kind.LoadRing at, event)) (loop.loaded d from_of k less)) c of;
    }

    open_here : (c : Core) → IsBookOf e c → word_at c (spot_of F (kind.LoadRing at)) ≡ 0 → IsOpenAt c.seats at
    open_here c of met =
        ⊎_elim
        (λ (on : GathersOn c tail from loop.block at end). absurd ((on.header (sym same_end)).0 met))
        (λ (none : GathersNoMore c at end). none.unsettled)
        (word_turns c of.sound tail from loop.block at end (turn_here c of.is_view) (may_gather room (inr below)))

    begun : WasSeen b (λ _. Unit {0}) e
    begun c of = let t = loop.began c of in record { start = t.state; is = t.is; state = t.state; since = (0, refl); met = tt; later = t.later }

    pub was_open : WasOpen b at f
    was_open = seen_then law b (λ s. IsOpenAt s.seats at) e F (kind.LoadRing at) 0 f zeros begun open_here

  -- THE END of a gather, between two blocks
  module _ (stop : end ≤ at) (many : count ≤ length words) where
    end_is : end ≡ at
    end_is = let next = at_most in omega (arith, stop, next)

    ended_view : e.view ≡ with_part F (gathered_part tail from at o) b.view
    ended_view =
        loop.view_is
        ∙ ap (λ (n : ℕ). with_part F (gathering_part tail from n at end o) b.view) (between_is stop)
        ∙ ap (λ (n : ℕ). with_part F (gathering_part tail from at at n o) b.view) end_is

    whole_blocks : (c : Core) → IsBookOf e c → HasBlocks from at (take count words) c
    whole_blocks c of =
        let g = gathering_here c of.sound of.is_view in
        let log = of.sound.common.log.gathered in
        let low = g.onward.0 in
        let up = g.onward.1 in
        let reached = g.gathered in
        let block = between_is stop in
        let w = whole c of.sound from at (subst (IsEnd c.shared) (sym g.from_flushed) log.flushed) (subst (IsEnd c.shared) block g.whole) (omega (arith, low, up)) (omega (arith, reached, block)) in
        record {
          ranges = w.0;
          blocks = w.1;
          words_are = w.2 (take count words) (ap (λ (n : ℕ). from + n) (length-take-le count words many))
              (λ k less.
              let small : k < count = let n = length-take-le count words many in omega (arith, less, n) in
              subst (LogWord c.seats (from + k)) (sym (get_or-take count words k 0 small)) (loop.loaded c of k small));
        }

    pub did_gather : (tail ≤ at) ⊎ (at ≡ from + RING_WORDS) ⊎ WasOpen b at e → DidGather b tail from at (take count words) e
    did_gather stops = record {
      view_is = ended_view;
      known = loop.known;
      is = loop.is;
      spelled = loop.spelled;
      began = loop.began;
      whole = whole_blocks;
      stops = stops;
    }

-- WHAT IS ANSWERED
-- the place flushed isn't behind the tail that was loaded
from_low : (b : Book) (tail from to : ℕ) (words : List ℕ) (e : Book) → DidGather b tail from to words e → from ≤ tail
from_low b tail from to words e did =
    let t = did.began did.known.core did.is in
    let onward = t.is.sound.common.log.gathered.onward in
    let low = onward.1 in
    let up = onward.2 in
    let flushed = t.flushed_is in
    let end = t.tail_is in
    omega (arith, low, up, flushed, end)

nothing_more : (b : Book) (from : ℕ) (words : List ℕ) (tail : ℕ) (e : Book) → DidGather b tail from (from + 0) (take 0 words) e → DidGather b tail from from [] e
nothing_more b from words tail e did = let same : from + 0 ≡ from = omega arith in subst (λ (n : ℕ). DidGather b tail from n [] e) same did

pub answers : (b : Book) (tail from count : ℕ) (words : List ℕ) (e : Book) (r : Gathered) → (0 < count → r ≡ Words from count) → (count ≡ 0 → tail ≤ from → r ≡ Empty from) → (count ≡ 0 → from < tail → r ≡ Unfilled from) →
    DidGather b tail from (from + count) (take count words) e → Gathers r b words e
answers b tail from count words e r some empty unfilled did =
    ⊎_elim
    (λ (none : count ≡ 0).
    let here : DidGather b tail from from [] e = nothing_more b from words tail e (subst (λ (n : ℕ). DidGather b tail from (from + n) (take n words) e) none did) in
    ⊎_elim
    (λ (ahead : from < tail).
    subst (λ (g : Gathered). Gathers g b words e) (sym (unfilled none ahead)) (
      tail,
      here,
      ahead,
      ⊎_elim (λ (t : tail ≤ from). absurd (omega (arith, t, ahead)))
          (⊎_elim (λ (t : from ≡ from + RING_WORDS). absurd (omega (arith, t))) (λ (t : WasOpen b from e). t)) here.stops,
    ))
    (λ (ends : tail ≤ from).
    let same : tail ≡ from = let low = from_low b tail from from [] e here in omega (arith, low, ends) in
    subst (λ (g : Gathered). Gathers g b words e) (sym (empty none ends)) (subst (λ (n : ℕ). DidGather b n from from [] e) same here))
    (cases_lt from tail))
    (λ (many : count ≡ 0 → ⊥).
    let positive : 0 < count = positive_by count many in
    subst (λ (g : Gathered). Gathers g b words e) (sym (some positive)) (tail, did, positive))
    (cases_eq count 0)
  where
    positive_by : (n : ℕ) → (n ≡ 0 → ⊥) → 0 < n
    positive_by n ne = grind arith

module _ (b : Book) (has : part_in b.view F ≡ Some (part_of b.view F)) (tail from count end : ℕ) (words : List ℕ) (e : Book) (loop : GatherLoop b tail from count end words e) where
  -- the loop's last turn, where nothing more is decided below the tail that was loaded
  pub gather_stops : (law : Law) (f : Book) → count < RING_WORDS → count ≤ length words →
      (end ≤ from + count) × (((tail ≤ from + count) × (f ≡ e)) ⊎ ((from + count < tail) × Booked law e F (kind.LoadRing (from + count)) 0 f)) →
      (r : Gathered) → (0 < count → r ≡ Words from count) → (count ≡ 0 → tail ≤ from → r ≡ Empty from) → (count ≡ 0 → from < tail → r ≡ Unfilled from) → Gathers r b words f
  gather_stops law f room many stop r some empty unfilled =
      ⊎_elim
      (λ (t : (tail ≤ from + count) × (f ≡ e)).
      subst (λ (g : Book). Gathers r b words g) (sym t.1)
      (answers b tail from count words e r some empty unfilled (did_gather b has tail from count end words e loop stop.0 many (inl t.0))))
      (λ (t : (from + count < tail) × Booked law e F (kind.LoadRing (from + count)) 0 f).
      answers b tail from count words f r some empty unfilled
      (did_gather b has tail from count end words f (zero_stays b has tail from count end words e loop law f t.1 stop.0 t.0 room) stop.0 many
      (inr (inr (was_open b has tail from count end words e loop law f t.1 stop.0 t.0 room)))))
      stop.1

  -- the ring's end is reached
  pub gather_full : count ≡ RING_WORDS → length words ≡ RING_WORDS →
      (r : Gathered) → (0 < length words → r ≡ Words from (length words)) → (length words ≡ 0 → tail ≤ from → r ≡ Empty from) → (length words ≡ 0 → from < tail → r ≡ Unfilled from) → Gathers r b words e
  gather_full full room r some empty unfilled =
      let all : length words ≡ count = room ∙ sym full in
      answers b tail from count words e r (subst (λ (n : ℕ). 0 < n → r ≡ Words from n) all some) (λ none. empty (all ∙ none)) (λ none. unfilled (all ∙ none))
      (did_gather b has tail from count end words e loop (ring_end b has tail from count end words e loop full) (omega (arith, full, room)) (inr (inl (ap (λ (n : ℕ). from + n) full))))
