-- A gather: its steps in the one state, word by word, and what it answers.
use Rattle.std.proofs.Common.{◌≡◌, ℕ, zero, suc, ◌+◌, ◌-◌, ◌<◌, ◌≤◌, ◌⊎◌, ⊎_elim, true, false, ◌&&◌, ltb, List, [], ◌∷◌, ◌++◌, length, take, get_or, Some, refl, sym, ap, ◌∙◌, subst, inl, inr, arith}
use Rattle.std.specs.Prelude.{IsSome}
use Rattle.std.proofs.lemmas.Bool.{and_parts, cases_Bool, cases_eq, eqb-true, le-ltb, ltb-true, or_cases}
use Rattle.std.proofs.lemmas.List.{take_more}
use Rattle.erm_cells.specs.Calls.{starts_anew}
use Rattle.erm_core_turns.specs.Turns.{HasGathered, IsAtStop, IsGathering, in_block, ring_words}
use Rattle.erm_core_turns.proofs.GatherDone.{gathers_empty, gathers_unfilled, gathers_words, quiet_now}
use Rattle.erm_core_turns.proofs.Gathers.{begins_gather, gathered_both, stops_here, word_on, word_stops}
use Rattle.erm_core_turns.proofs.LogIs.{Lists, More}
use Rattle.erm_core_turns.proofs.Words.{no_words, words_more}
use Rattle.erm_machine.specs.declared.event.Kind.TheVariants as kind
use Rattle.erm_machine.specs.declared.event.TailUse.TheVariants as purpose
use Rattle.erm_machine.specs.declared.limits.TheConstants.{FLUSH_SEAT, RING_WORDS}
use Rattle.erm_machine.specs.declared.part.Flushing.{Flushing}
use Rattle.erm_machine.specs.declared.part.Flushing.TheVariants as flushing
use Rattle.erm_machine.specs.declared.part.Part.{Part}
use Rattle.erm_machine.specs.Core.{Core, Shared}
use Rattle.erm_machine.specs.Flushing.{load_ring}
use Rattle.erm_machine.specs.Life.{is_between}
use Rattle.erm_machine.specs.Log.{ring_at}
use Rattle.erm_machine.specs.Seat.{is_vacant}
use Rattle.erm_machine.specs.Step.{after_event}
use Rattle.erm_machine.proofs.Guards.{when_then}
use Rattle.erm_machine.proofs.QuietKinds.{moves}
use Rattle.erm_model.specs.RowTransaction.{Law}
use Rattle.erm_ring.specs.Took.{TookGather, TookGathered, ring_steps}
use Rattle.erm_ring.specs.Turns as ring
use Rattle.erm_ring.specs.Turns.{gathered_part}
use Rattle.erm_ring.proofs.Gathering.{flush_taken}
use Rattle.erm_rule.specs.declared.view.Book.{Book}
use Rattle.erm_rule.specs.Steps.{Booked}
use Rattle.erm_rule.specs.Views.{part_in, part_of, with_part}
use Rattle.erm_rule.proofs.Telling.{held_part, is_held}
use Rattle.erm_rule.specs.Went.{Took, core_of}
use Rattle.erm_world.specs.declared.gathered.Gathered.{Gathered}
use Rattle.erm_world.specs.declared.gathered.Gathered.TheVariants.{Empty, Unfilled, Words}
use Rattle.erm_world.specs.Log.{Gathers}
use Rattle.erm_table_world.proofs.Covered.{turn_covered}
use Rattle.erm_table_world.specs.Stands.{IsStateful, StandsAt}
use Rattle.erm_table_world.specs.Flusher.{task_in}
use Rattle.erm_table_world.specs.Turns.{Turned, book_log}
use Rattle.erm_table_world.proofs.Beginning.{took_alone}
use Rattle.erm_table_world.proofs.Wholly.{part_is, part_set, runs}

abbrev F : ℕ
F = FLUSH_SEAT

-- THE GUARD of a load of the ring: it is at the next word; and outside a block there is a next word below the tail loaded
record MayLoad (place tail from next end : ℕ) : Type 0 where
  here : place ≡ next
  below : ltb next end ≡ false → next < tail

may_load : (place found tail from block next end : ℕ) (x y : Part) (f : Flushing) → f ≡ flushing.Gathers tail from block next end → load_ring place found x f ≡ Some y → MayLoad place tail from next end
may_load place found tail from block next end x y f is e =
    when_then (λ _. MayLoad place tail from next end) _ _ y (sym (ap (load_ring place found x) is) ∙ e)
    (λ t. record {
      here = eqb-true place next (and_parts _ _ (and_parts _ _ t).0).0;
      below = λ outside.
          ⊎_elim (λ (inside : ltb next end ≡ true). absurd (cc))
          (λ (on : (ltb next tail && ltb (next - from) RING_WORDS) ≡ true). ltb-true next tail (and_parts _ _ on).0)
          (or_cases _ _ (and_parts _ _ t).1);
    })

block_here : (f : Flushing) (tail from block next end : ℕ) → f ≡ flushing.Gathers tail from block next end → in_block f ≡ ltb next end
block_here f tail from block next end is = ap in_block is

no_block : (f : Flushing) (tail from at : ℕ) → f ≡ flushing.Gathers tail from at at at → in_block f ≡ false
no_block f tail from at is = ap in_block is ∙ le-ltb at at (omega arith)

next_of : (tail from block at end tail_too from_too next : ℕ) → flushing.Gathers tail from block at end ≡ flushing.Gathers tail_too from_too next next next → at ≡ next
next_of tail from block at end tail_too from_too next e = cc

-- It stopped at a place before this one.
record Stopped (at : ℕ) (m : Core) : Type 0 where
  place : ℕ
  tail : ℕ
  from : ℕ
  before : place < at
  is : (m.seats F).flushing ≡ flushing.Gathers tail from place place place

-- ONE WORD in the one state
module _ (law : Law) (from at word : ℕ) (m f : Book) (state : IsStateful law m) (booked : Booked law m F (kind.LoadRing at) word f) (room : at < from + RING_WORDS) where
  abbrev c : Core
  c = core_of m

  abbrev d : Core
  d = core_of f

  event : after_event c F (kind.LoadRing at) ≡ Some d
  event = (runs law m F (kind.LoadRing at) word f booked state).event

  met : ring_at c.shared at ≡ word
  met = (runs law m F (kind.LoadRing at) word f booked state).met

  -- where it stopped no word is loaded
  stopped_loads : Stopped at c → ⊥
  stopped_loads stopped =
      let step = moves c F (kind.LoadRing at) d tt event in
      let may = may_load at (ring_at c.shared at) stopped.tail stopped.from stopped.place stopped.place stopped.place (c.seats F) step.part (c.seats F).flushing stopped.is step.after in
      let here = may.here in
      let less = stopped.before in
      omega (arith, here, less)

  module _ (g : IsGathering from at c) where
    on : in_block (c.seats F).flushing ≡ false → at < c.shared.tail
    on outside =
        let step = moves c F (kind.LoadRing at) d tt event in
        (may_load at (ring_at c.shared at) c.shared.tail from g.block at g.end (c.seats F) step.part (c.seats F).flushing g.is step.after).below
        (sym (block_here (c.seats F).flushing c.shared.tail from g.block at g.end g.is) ∙ outside)

    inside_on : in_block (c.seats F).flushing ≡ true → HasGathered from (at + 1) c d
    inside_on inside = word_on from at c state.sound.sound g d on room event (inl inside)

    -- a header of 0 stops it
    zero_stops : in_block (c.seats F).flushing ≡ false → word ≡ 0 → HasGathered from at c d × IsAtStop from at d
    zero_stops outside none = word_stops from at c state.sound.sound g d on room event outside (met ∙ none)

    word_or_stop : HasGathered from (at + 1) c d ⊎ Stopped (at + 1) d
    word_or_stop =
        ⊎_elim (λ (inside : in_block (c.seats F).flushing ≡ true). inl (inside_on inside))
        (λ (outside : in_block (c.seats F).flushing ≡ false).
        ⊎_elim
        (λ (none : word ≡ 0).
        let stop = (zero_stops outside none).1 in inr (record { place = at; tail = d.shared.tail; from = from; before = omega arith; is = stop.is }))
        (λ (some : word ≡ 0 → ⊥). inl (word_on from at c state.sound.sound g d on room event (inr (λ zero_is. some (sym met ∙ zero_is)))))
        (cases_eq word 0))
        (cases_Bool (in_block (c.seats F).flushing))

-- a gather may begin, or begin anew
pub seat_held : (law : Law) (sessions : ℕ) (b : Book) → StandsAt law sessions b → IsSome (part_in b.view F)
seat_held law sessions b at =
    is_held b.view F (part_of b.view F)
    (held_part b.view F (ap (λ (x : Part). is_vacant x.place) (part_is law b F at.state refl) ∙ flush_taken (core_of b) at.state.sound.sound))

pub may_gather : (law : Law) (sessions : ℕ) (b : Book) → StandsAt law sessions b → ring.MayGather b.view
may_gather law sessions b at = record {
  held = seat_held law sessions b at;
  between = ap (λ (x : Part). is_between x.flushing) (part_is law b F at.state refl) ∙ (at.quiet.flusher F refl).turn;
}

module _ (law : Law) (sessions : ℕ) (b e : Book) (at : StandsAt law sessions b) (words : List ℕ) (long : length words ≡ RING_WORDS) where
  abbrev begin : Core
  begin = core_of b

  abbrev from : ℕ
  from = begin.shared.flushed

  -- SO MANY WORDS: each is the ring's
  record Loaded (n : ℕ) (m : Book) : Type 0 where
    state : IsStateful law m
    shared : (core_of m).shared ≡ begin.shared
    far : HasGathered from (from + n) begin (core_of m) ⊎ Stopped (from + n) (core_of m)
    taken : take n words ≡ ring_words begin.shared from n

  loaded_shared : (law_m : Law) (place word : ℕ) (m f : Book) → IsStateful law m → Booked law m F (kind.LoadRing place) word f → (core_of f).shared ≡ (core_of m).shared
  loaded_shared law_m place word m f state booked =
      let run = runs law m F (kind.LoadRing place) word f booked state in
      ap (λ (x : Core). x.shared) (moves (core_of m) F (kind.LoadRing place) (core_of f) tt run.event).is

  one_more : (n : ℕ) (m f : Book) → n < RING_WORDS → Loaded n m → Booked law m F (kind.LoadRing (from + n)) (get_or words n 0) f → Loaded (n + 1) f
  one_more n m f less before booked =
      let run = runs law m F (kind.LoadRing (from + n)) (get_or words n 0) f booked before.state in
      let shared : (core_of f).shared ≡ (core_of m).shared = loaded_shared law (from + n) (get_or words n 0) m f before.state booked in
      let next : from + n + 1 ≡ from + (n + 1) = omega arith in
      record {
        state = run.state;
        shared = shared ∙ before.shared;
        far =
            ⊎_elim
            (λ (g : HasGathered from (from + n) begin (core_of m)).
            ⊎_elim
            (λ (on : HasGathered from (from + n + 1) (core_of m) (core_of f)).
            inl (subst (λ (k : ℕ). HasGathered from k begin (core_of f)) next (gathered_both from (from + n) (from + n + 1) begin (core_of m) (core_of f) g on)))
            (λ (stop : Stopped (from + n + 1) (core_of f)). inr (subst (λ (k : ℕ). Stopped k (core_of f)) next stop))
            (word_or_stop law from (from + n) (get_or words n 0) m f before.state booked (omega (arith, less)) g.gathers))
            (λ (stopped : Stopped (from + n) (core_of m)). absurd (stopped_loads law from (from + n) (get_or words n 0) m f before.state booked (omega (arith, less)) stopped))
            before.far;
        taken =
            take_more words n 0 (omega (arith, less, long)) ∙ ap (λ (ws : List ℕ). ws ++ get_or words n 0 ∷ []) before.taken
            ∙ ap (λ (w : ℕ). ring_words begin.shared from n ++ w ∷ []) (sym run.met ∙ ap (λ (s : Shared). ring_at s (from + n)) before.shared) ∙ sym (words_more begin.shared from n);
      }

  all_loaded : (n : ℕ) (first m : Book) → n ≤ RING_WORDS → Loaded 0 first → Took law F (ring_steps from words n) first m → Loaded n m
  all_loaded zero first m few start took = subst (Loaded 0) (sym took) start
  all_loaded (suc n) first m few start took =
      let next : n + 1 ≡ suc n = omega arith in
      subst (λ (k : ℕ). Loaded k m) next (one_more n took.0 m (omega (arith, few)) (all_loaded n first took.0 (omega (arith, few)) start took.1) took.2)

  -- THE BEGIN
  began : (tail place : ℕ) (first : Book) → Took law F ((kind.LoadFlushed, place) ∷ (kind.LoadTail purpose.Gather, tail) ∷ []) b first → (place ≡ from) × (tail ≡ begin.shared.tail) × Loaded 0 first
  began tail place first took =
      let booked = took_alone law F (kind.LoadTail purpose.Gather, tail) b took.0 took.1 in
      let one = runs law b F (kind.LoadTail purpose.Gather) tail took.0 booked at.state in
      let two = runs law took.0 F kind.LoadFlushed place first took.2 one.state in
      let did = begins_gather begin (core_of took.0) (core_of first) at.state.sound.sound (at.quiet.flusher F refl) one.event two.event in
      let none : from ≡ from + 0 = omega arith in (
        sym two.met ∙ did.1,
        sym one.met,
        record {
          state = two.state;
          shared = did.0.shared;
          far = inl (subst (λ (k : ℕ). HasGathered from k begin (core_of first)) none did.0);
          taken = sym (no_words begin.shared from);
        },
      )

  -- THE END: where it stopped, by the part that the pass has of the flush seat
  record GatheredTo (n : ℕ) : Type 0 where
    state : IsStateful law e
    did : HasGathered from (from + n) begin (core_of e)
    stop : from + n < from + RING_WORDS → IsAtStop from (from + n) (core_of e)
    taken : take n words ≡ ring_words begin.shared from n

  module _ (tail seen n : ℕ) (few : n ≤ RING_WORDS) (took : TookGathered law tail from n words b e) (view : e.view ≡ with_part F (gathered_part seen from (from + n) (part_of b.view F)) b.view) where
    abbrev m : Book
    m = took.gathered

    start : (from ≡ from) × (tail ≡ begin.shared.tail) × Loaded 0 took.loads.began
    start = began tail from took.loads.began took.loads.begins

    before : Loaded n m
    before = all_loaded n took.loads.began m few start.2 took.loads.loads

    -- the flush seat is between two blocks at the end
    ends_at : IsStateful law e → ((core_of e).seats F).flushing ≡ flushing.Gathers seen from (from + n) (from + n) (from + n)
    ends_at state = ap (λ (x : Part). x.flushing) (part_set law b e F (gathered_part seen from (from + n) (part_of b.view F)) at.state state refl view)

    -- so it hadn't stopped before, if no word was loaded since
    whole : (state : IsStateful law e) → e ≡ m → HasGathered from (from + n) begin (core_of e)
    whole state same =
        ⊎_elim (λ (g : HasGathered from (from + n) begin (core_of m)). subst (λ (z : Book). HasGathered from (from + n) begin (core_of z)) (sym same) g)
        (λ (stopped : Stopped (from + n) (core_of m)).
        let there : ((core_of e).seats F).flushing ≡ flushing.Gathers stopped.tail stopped.from stopped.place stopped.place stopped.place =
        ap (λ (z : Book). ((core_of z).seats F).flushing) same ∙ stopped.is
        in
        let back = next_of stopped.tail stopped.from stopped.place stopped.place stopped.place seen from (from + n) (sym there ∙ ends_at state) in
        let less = stopped.before in
        absurd (omega (arith, back, less)))
        before.far

    -- it stopped without a further load
    stays : ((tail ≤ from + n) ⊎ (n ≡ RING_WORDS)) × (e ≡ m) → GatheredTo n
    stays (why, same) =
        let state : IsStateful law e = subst (IsStateful law) (sym same) before.state in
        let did = whole state same in
        record {
          state = state;
          did = did;
          stop = λ room.
              ⊎_elim
              (λ (high : tail ≤ from + n).
              let now : (core_of e).shared.tail ≡ begin.shared.tail = ap (λ (s : Shared). s.tail) did.shared in
              let loaded = start.1 in
              stops_here from (from + n) (core_of e) state.sound.sound did.gathers (no_block ((core_of e).seats F).flushing seen from (from + n) (ends_at state)) (omega (arith, high, now, loaded)))
              (λ (full : n ≡ RING_WORDS). absurd (omega (arith, full, room))) why;
          taken = before.taken;
        }

    -- or at a header of 0
    stops_at : (from + n < tail) × (n < RING_WORDS) × Booked law m F (kind.LoadRing (from + n)) 0 e → GatheredTo n
    stops_at (low, less, booked) =
        let room : from + n < from + RING_WORDS = omega (arith, less) in
        let run = runs law m F (kind.LoadRing (from + n)) 0 e booked before.state in
        ⊎_elim
        (λ (g : HasGathered from (from + n) begin (core_of m)).
        ⊎_elim
        (λ (inside : in_block ((core_of m).seats F).flushing ≡ true).
        let on = inside_on law from (from + n) 0 m e before.state booked room g.gathers inside in
        let back = next_of (core_of e).shared.tail from on.gathers.block (from + n + 1) on.gathers.end seen from (from + n) (sym on.gathers.is ∙ ends_at run.state) in
        absurd (omega (arith, back)))
        (λ (outside : in_block ((core_of m).seats F).flushing ≡ false).
        let stop = zero_stops law from (from + n) 0 m e before.state booked room g.gathers outside refl in
        record {
          state = run.state;
          did = gathered_both from (from + n) (from + n) begin (core_of m) (core_of e) g stop.0;
          stop = λ _. stop.1;
          taken = before.taken;
        })
        (cases_Bool (in_block ((core_of m).seats F).flushing)))
        (λ (stopped : Stopped (from + n) (core_of m)). absurd (stopped_loads law from (from + n) 0 m e before.state booked room stopped))
        before.far

    gathered : GatheredTo n
    gathered = ⊎_elim stays stops_at took.stop

  -- what is known of a gather of so many words
  module _ (lists : Lists law) (more : More law) where
    pub record GathersAs (r : Gathered) : Type 0 where
      pub turned : Turned law sessions b e
      pub task : task_in e ≡ task_in b
      pub gathers : Gathers r (book_log sessions b) (book_log sessions e) words

    turned_of : (n : ℕ) → n ≤ RING_WORDS → GatheredTo n → Turned law sessions b e
    turned_of n few g = record {
      at = record {
        state = g.state;
        quiet = quiet_now law lists sessions (from + n) begin (core_of e) at.state.sound g.state.sound at.quiet g.did g.stop (omega (arith, few));
        covered = turn_covered sessions begin (core_of e) at.quiet g.did.flushes at.covered;
        starts = ap starts_anew g.did.pin.task ∙ at.starts;
      };
      flushes = g.did.flushes;
    }

    -- of none, and of some
    none_empty : (n : ℕ) → n ≡ 0 → begin.shared.tail ≤ from → GatheredTo n → GathersAs (Empty from)
    none_empty n none high g = record {
      turned = turned_of n (omega (arith, none)) g;
      task = g.did.pin.task;
      gathers =
          gathers_empty law lists sessions (from + n) begin (core_of e) at.state.sound g.state.sound at.quiet g.did g.stop (omega (arith, none)) (omega (arith, none)) (omega (arith, high));
    }

    none_unfilled : (n : ℕ) → n ≡ 0 → from < begin.shared.tail → GatheredTo n → GathersAs (Unfilled from)
    none_unfilled n none low g = record {
      turned = turned_of n (omega (arith, none)) g;
      task = g.did.pin.task;
      gathers =
          gathers_unfilled law lists sessions (from + n) begin (core_of e) at.state.sound g.state.sound at.quiet g.did g.stop (omega (arith, none)) (omega (arith, none)) (omega (arith, low, none));
    }

    some_words : (n : ℕ) → n ≤ RING_WORDS → 0 < n → GatheredTo n → GathersAs (Words from n)
    some_words n few some g = record {
      turned = turned_of n few g;
      task = g.did.pin.task;
      gathers =
          gathers_words law lists sessions (from + n) begin (core_of e) at.state.sound g.state.sound at.quiet g.did g.stop (omega (arith, few)) more n words refl some g.taken;
    }

    -- the place from which it gathered is the one flushed
    at_flushed : (tail seen place n : ℕ) → place ≡ from → TookGathered law tail place n words b e
        → e.view ≡ with_part F (gathered_part seen place (place + n) (part_of b.view F)) b.view → GatheredTo n
    at_flushed tail seen place n same took view =
        gathered tail seen n took.few (subst (λ (p : ℕ). TookGathered law tail p n words b e) same took)
        (subst (λ (p : ℕ). e.view ≡ with_part F (gathered_part seen p (p + n) (part_of b.view F)) b.view) same view)

    none_seen : (seen place : ℕ) → e.view ≡ with_part F (gathered_part seen place place (part_of b.view F)) b.view
        → e.view ≡ with_part F (gathered_part seen place (place + 0) (part_of b.view F)) b.view
    none_seen seen place view =
        let none : place ≡ place + 0 = omega arith in
        subst (λ (to : ℕ). e.view ≡ with_part F (gathered_part seen place to (part_of b.view F)) b.view) none view

    pub gathers : (r : Gathered) → TookGather law r words b e → ring.Gathers r b words e → GathersAs r
    gathers (Empty place) took did =
        let start = began took.0 place took.2.loads.began took.2.loads.begins in
        let high = took.1 in
        let here = start.0 in
        let end = start.1 in
        subst (λ (p : ℕ). GathersAs (Empty p)) (sym start.0)
        (none_empty 0 refl (omega (arith, high, here, end)) (at_flushed took.0 place place 0 start.0 took.2 (none_seen place place did.view_is)))
    gathers (Unfilled place) took did =
        let start = began took.0 place took.2.loads.began took.2.loads.begins in
        let low = took.1 in
        let here = start.0 in
        let end = start.1 in
        subst (λ (p : ℕ). GathersAs (Unfilled p)) (sym start.0)
        (none_unfilled 0 refl (omega (arith, low, here, end)) (at_flushed took.0 did.0 place 0 start.0 took.2 (none_seen did.0 place did.1.view_is)))
    gathers (Words place count) took did =
        let start = began took.0 place took.2.loads.began took.2.loads.begins in
        subst (λ (p : ℕ). GathersAs (Words p count)) (sym start.0)
        (some_words count took.2.few took.1 (at_flushed took.0 did.0 place count start.0 took.2 did.1.view_is))
