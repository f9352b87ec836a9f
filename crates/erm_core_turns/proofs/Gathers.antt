-- A gather: its steps, and what they leave.
use Rattle.std.proofs.Common.{◌≡◌, ◌≢◌, ℕ, ◌+◌, ◌<◌, ◌≤◌, ⊎_elim, Bool, true, false, not, List, [], ◌∷◌, ◌++◌, Some, refl, sym, ap, ◌∙◌, subst, inl, inr, arith}
use Rattle.std.specs.Prelude.{if◌then◌else◌, nat_lt, ◌==◌, ◌⊎◌}
use Rattle.std.proofs.lemmas.Bool.{and_from, cases_eq, cases_lt, eq-eqb, ltb-false, ltb-true, ne_eqb, cases_Bool}
use Rattle.std.proofs.lemmas.Option.{same_Some}
use Rattle.erm_machine.specs.declared.event.Kind.{Kind}
use Rattle.erm_machine.specs.declared.event.Kind.TheVariants as kind
use Rattle.erm_machine.specs.declared.event.TailUse.TheVariants as purpose
use Rattle.erm_machine.specs.declared.limits.TheConstants.{FLUSH_SEAT, RING_WORDS}
use Rattle.erm_machine.specs.declared.part.Flushing.{Flushing}
use Rattle.erm_machine.specs.declared.part.Flushing.TheVariants as flushing
use Rattle.erm_machine.specs.declared.part.Part.{Part}
use Rattle.erm_machine.specs.declared.place.Place.{Place}
use Rattle.erm_machine.specs.declared.place.Place.TheVariants.{Vacant}
use Rattle.erm_machine.specs.Core.{Core, Shared, spot_of, word_at}
use Rattle.erm_machine.specs.Flushing.{clear_ring, gathered_word, load_flushed, load_ring, size_of, store_flushed}
use Rattle.erm_machine.specs.Facts.{all_of}
use Rattle.erm_machine.specs.declared.attempt.Attempt.{Attempt}
use Rattle.erm_model.specs.Member.{◌∈◌}
use Rattle.erm_machine.specs.Log.{Gathering, IsFlushing, ring_at}
use Rattle.erm_machine.specs.Seat.{is_vacant, saw}
use Rattle.erm_machine.specs.Sound.{Sound}
use Rattle.erm_machine.specs.Step.{after_event, part_after, shared_after}
use Rattle.erm_machine.proofs.Frames.{put_same}
use Rattle.erm_machine.proofs.Guards.{either_way, when_then}
use Rattle.erm_machine.proofs.QuietKinds.{MeetsOne, moves}
use Rattle.erm_core_flush.specs.Turns.{GathersNoMore, GathersOn, IsOpenAt, MayGather, Turns, after_word, turn_of}
use Rattle.erm_core_flush.proofs.Turns.{word_turns}
use Rattle.erm_core_calls.proofs.Moving.{met, stepped, taken}
use Rattle.erm_core_view.specs.Views.{IsStill}
use Rattle.erm_core_turns.specs.Turns.{Flushes, HasGathered, IsAtStop, IsGathering, PinStays, in_block}
use Rattle.erm_core_turns.proofs.Turns.{flushes_both, flushes_none, one_after, part_stepped, pin_both, pin_none, step_flushes, step_leaves, IsOfFlusher}

abbrev F : ℕ
F = FLUSH_SEAT

not_vacant : (pl : Place) → pl ≢ Vacant → is_vacant pl ≡ false
not_vacant Vacant taken = absurd (taken refl)
not_vacant _ taken = refl

-- the flush seat's part after the load of the tail, and of the place flushed
abbrev pub tail_part : ℕ → Part → Part
tail_part found x = saw found (record x { flushing = flushing.Tail found })

abbrev pub from_part : ℕ → ℕ → Part → Part
from_part tail found x = record x { flushing = flushing.Gathers tail found found found found }

pub tail_steps : (c : Core) → Sound c → IsStill (c.seats F)
    → after_event c F (kind.LoadTail purpose.Gather) ≡ Some (stepped c F (kind.LoadTail purpose.Gather) (tail_part c.shared.tail (c.seats F)))
tail_steps c sound still =
    let there = not_vacant (c.seats F).place ((sound.own F).log.taken refl) in
    taken c F (kind.LoadTail purpose.Gather) (tail_part c.shared.tail (c.seats F)) tt refl
    (met _ _ _ refl (and_from _ _ (ap not there) still.turn))

pub from_steps : (c : Core) (tail : ℕ) → (c.seats F).flushing ≡ flushing.Tail tail
    → after_event c F kind.LoadFlushed ≡ Some (stepped c F kind.LoadFlushed (from_part tail c.shared.flushed (c.seats F)))
from_steps c tail at = taken c F kind.LoadFlushed (from_part tail c.shared.flushed (c.seats F)) tt refl (ap (load_flushed c.shared.flushed (c.seats F)) at)

pub tail_at : (b c : Core) → Sound b → IsStill (b.seats F) → after_event b F (kind.LoadTail purpose.Gather) ≡ Some c → (c.seats F).flushing ≡ flushing.Tail b.shared.tail
tail_at b c sound still e =
    ap (λ (x : Part). x.flushing) (part_stepped b c F (kind.LoadTail purpose.Gather) (tail_part b.shared.tail (b.seats F)) (tail_steps b sound still) e)

-- after both it is at the place flushed, and has gathered nothing
pub begins_gather : (b c d : Core) → Sound b → IsStill (b.seats F) → after_event b F (kind.LoadTail purpose.Gather) ≡ Some c → after_event c F kind.LoadFlushed ≡ Some d
    → HasGathered b.shared.flushed b.shared.flushed b d × (c.shared.flushed ≡ b.shared.flushed)
begins_gather b c d sound still one two =
    let k : Kind = kind.LoadTail purpose.Gather in
    let tail : ℕ = b.shared.tail in
    let y : Part = tail_part tail (b.seats F) in
    let first = tail_steps b sound still in
    let at = tail_at b c sound still one in
    let z : Part = from_part tail c.shared.flushed (c.seats F) in
    let second = from_steps c tail at in
    let was : c.seats F ≡ y = part_stepped b c F k y first one in
    let is : d.seats F ≡ z = part_stepped c d F kind.LoadFlushed z second two in
    let shared_one : c.shared ≡ b.shared = ap (λ (to : Core). to.shared) (one_after b c (stepped b F k y) F k first one) in
    let shared_two : d.shared ≡ c.shared = ap (λ (to : Core). to.shared) (one_after c d (stepped c F kind.LoadFlushed z) F kind.LoadFlushed second two) in
    let shared : d.shared ≡ b.shared = shared_two ∙ shared_one in
    let flushed : c.shared.flushed ≡ b.shared.flushed = ap (λ (s : Shared). s.flushed) shared_one in
    let n : ℕ = b.shared.flushed in (
      record {
        flushes = flushes_both b c d (step_flushes b c k y tt first one refl) (step_flushes c d kind.LoadFlushed z tt second two refl);
        pin = record {
          place = ap (λ (x : Part). x.place) is ∙ ap (λ (x : Part). x.place) was;
          task = ap (λ (x : Part). x.task) is ∙ ap (λ (x : Part). x.task) was;
          current = ap (λ (x : Part). x.current) is ∙ ap (λ (x : Part). x.current) was;
          run = ap (λ (x : Part). x.run) is ∙ ap (λ (x : Part). x.run) was;
        };
        shared = shared;
        gathers = record {
          block = n;
          end = n;
          is =
              ap (λ (x : Part). x.flushing) is ∙ ap (λ (m : ℕ). flushing.Gathers tail m m m m) flushed
              ∙ ap (λ (s : Shared). flushing.Gathers s.tail n n n n) (sym shared);
        };
      },
      flushed,
    )

-- STEPS of the ring and of the place flushed leave the pin.
record TurnPart (x y : Part) : Type 0 where
  place : y.place ≡ x.place
  task : y.task ≡ x.task
  current : y.current ≡ x.current
  over : y.over ≡ x.over
  run : y.run ≡ x.run

turn_same : (x : Part) (f : Flushing) (n : ℕ) → TurnPart x (record x { flushing = f; gathered_to = n })
turn_same x f n = record { place = refl; task = refl; current = refl; over = refl; run = refl }

word_same : (tail from block next end : ℕ) (x : Part) → TurnPart x (gathered_word tail from block next end x)
word_same tail from block next end x =
    either_way (TurnPart x) ((next + 1) == end) _ _ (λ _. record { place = refl; task = refl; current = refl; over = refl; run = refl })
    (λ _. record { place = refl; task = refl; current = refl; over = refl; run = refl })

abbrev pub IsOfTurn : Kind → Type 0
IsOfTurn (kind.LoadRing at) = Unit {0}
IsOfTurn (kind.ClearRing at) = Unit {0}
IsOfTurn (kind.StoreFlushed value) = Unit {0}
IsOfTurn k = ⊥

ring_part : (at found : ℕ) (x y : Part) (f : Flushing) → load_ring at found x f ≡ Some y → TurnPart x y
ring_part at found x y (flushing.Gathers tail from block next end) e =
    when_then (TurnPart x) _ _ y e
    (λ _.
    either_way (TurnPart x) (nat_lt next end) _ _ (λ _. word_same tail from block next end x)
    (λ _.
    either_way (TurnPart x) (found == 0) _ _ (λ _. record { place = refl; task = refl; current = refl; over = refl; run = refl })
    (λ _. word_same tail from next next (next + size_of found) x)))
ring_part at found x y _ e = absurd (cc)

clear_part : (at : ℕ) (x y : Part) (f : Flushing) → clear_ring at x f ≡ Some y → TurnPart x y
clear_part at x y (flushing.Gathers tail from block next end) e = when_then (TurnPart x) _ _ y e (λ _. record { place = refl; task = refl; current = refl; over = refl; run = refl })
clear_part at x y (flushing.Clears next to) e = when_then (TurnPart x) _ _ y e (λ _. record { place = refl; task = refl; current = refl; over = refl; run = refl })
clear_part at x y _ e = absurd (cc)

store_part : (value : ℕ) (x y : Part) (f : Flushing) → store_flushed value x f ≡ Some y → TurnPart x y
store_part value x y (flushing.Clears next to) e = when_then (TurnPart x) _ _ y e (λ _. record { place = refl; task = refl; current = refl; over = refl; run = refl })
store_part value x y _ e = absurd (cc)

turn_part : (k : Kind) → IsOfTurn k → (found : ℕ) (s : Shared) (x y : Part) → part_after F k found s x ≡ Some y → TurnPart x y
turn_part (kind.LoadRing at) is found s x y e = ring_part at found x y x.flushing e
turn_part (kind.ClearRing at) is found s x y e = clear_part at x y x.flushing e
turn_part (kind.StoreFlushed value) is found s x y e = store_part value x y x.flushing e
turn_part _ is found s x y e = absurd is

of_flusher : (k : Kind) → IsOfTurn k → IsOfFlusher k
of_flusher (kind.LoadRing at) is = tt
of_flusher (kind.ClearRing at) is = tt
of_flusher (kind.StoreFlushed value) is = tt
of_flusher _ is = absurd is

of_one : (k : Kind) → IsOfTurn k → MeetsOne k
of_one (kind.LoadRing at) is = tt
of_one (kind.ClearRing at) is = tt
of_one (kind.StoreFlushed value) is = tt
of_one _ is = absurd is

pub record TurnStep (c d : Core) (k : Kind) : Type 0 where
  pub flushes : Flushes c d
  pub pin : PinStays c d
  pub shared : d.shared ≡ shared_after F k (word_at c (spot_of F k)) (c.seats F) c.shared

pub turn_step : (c d : Core) (k : Kind) → IsOfTurn k → after_event c F k ≡ Some d → TurnStep c d k
turn_step c d k is e =
    let m = moves c F k d (of_one k is) e in
    let at = turn_part k is (word_at c (spot_of F k)) c.shared (c.seats F) m.part m.after in
    let part : d.seats F ≡ m.part = ap (λ (to : Core). to.seats F) m.is ∙ put_same c.seats F m.part in
    record {
      flushes = step_leaves c d k m.part (of_flusher k is) m.is at.over;
      pin = record {
        place = ap (λ (x : Part). x.place) part ∙ at.place;
        task = ap (λ (x : Part). x.task) part ∙ at.task;
        current = ap (λ (x : Part). x.current) part ∙ at.current;
        run = ap (λ (x : Part). x.run) part ∙ at.run;
      };
      shared = ap (λ (to : Core). to.shared) m.is;
    }

-- the transactions of each seat stay
pub all_same : (c d : Core) → Flushes c d → PinStays c d → (q : ℕ) → all_of (d.seats q) ≡ all_of (c.seats q)
all_same c d stays pin q =
    ⊎_elim
    (λ (here : q ≡ F).
    subst (λ n. all_of (d.seats n) ≡ all_of (c.seats n)) (sym here)
    (ap (λ (ts : List Attempt). ts ++ (d.seats F).current ∷ []) stays.over ∙ ap (λ (t : Attempt). (c.seats F).over ++ t ∷ []) pin.current))
    (λ (there : q ≡ F → ⊥). ap all_of (stays.others q there))
    (cases_eq q F)

open_same : (c d : Core) (at : ℕ) → Flushes c d → PinStays c d → IsOpenAt c.seats at → IsOpenAt d.seats at
open_same c d at stays pin is = record {
  seat = is.seat;
  holder = is.holder;
  stands = subst (λ (ts : List Attempt). is.holder ∈ ts) (sym (all_same c d stays pin is.seat)) is.stands;
  drawn = is.drawn;
  starts = is.starts;
  undecided = is.undecided;
}

-- A WORD of the ring is loaded.
in_at : (f : Flushing) (tail from block next end : ℕ) → f ≡ flushing.Gathers tail from block next end → in_block f ≡ nat_lt next end
in_at f tail from block next end e = ap in_block e

module _ (from at : ℕ) (c : Core) (sound : Sound c) (g : IsGathering from at c) where
  gathering : Gathering c.shared c.seats (c.seats F).gathered_to c.shared.tail from g.block at g.end
  gathering = subst (IsFlushing c.shared c.seats (c.seats F).gathered_to) g.is sound.common.log.turn

  inside : in_block (c.seats F).flushing ≡ true → at < g.end
  inside e = ltb-true at g.end (sym (in_at (c.seats F).flushing c.shared.tail from g.block at g.end g.is) ∙ e)

  outside : in_block (c.seats F).flushing ≡ false → at ≡ g.end
  outside e =
      let high = ltb-false at g.end (sym (in_at (c.seats F).flushing c.shared.tail from g.block at g.end g.is) ∙ e) in
      let low = gathering.onward.2 in omega (arith, high, low)

  -- between two blocks it is at a block's end
  pub between : at ≡ g.end → (c.seats F).flushing ≡ flushing.Gathers c.shared.tail from at at at
  between e =
      let block = gathering.between e in
      g.is ∙ ap (λ (n : ℕ). flushing.Gathers c.shared.tail from g.block at n) (sym e)
      ∙ ap (λ (n : ℕ). flushing.Gathers c.shared.tail from n at at) (block ∙ sym e)

  pub stops_here : in_block (c.seats F).flushing ≡ false → c.shared.tail ≤ at → IsAtStop from at c
  stops_here out above = record { is = between (outside out); stop = λ below. absurd (omega (arith, above, below)) }

  -- the word is loaded where a block is in hand, or the log goes on
  may : (in_block (c.seats F).flushing ≡ false → at < c.shared.tail) → at < from + RING_WORDS → MayGather c.shared.tail from at g.end
  may on room =
      ⊎_elim (λ (yes : in_block (c.seats F).flushing ≡ true). inl (inside yes)) (λ (no : in_block (c.seats F).flushing ≡ false). inr (on no, room))
      (cases_Bool (in_block (c.seats F).flushing))

  pub loads : (in_block (c.seats F).flushing ≡ false → at < c.shared.tail) → at < from + RING_WORDS
      → GathersOn c c.shared.tail from g.block at g.end ⊎ GathersNoMore c at g.end
  loads on room = word_turns c sound c.shared.tail from g.block at g.end g.is (may on room)

  pub load_taken : (in_block (c.seats F).flushing ≡ false → at < c.shared.tail) → at < from + RING_WORDS → (d : Core) × (after_event c F (kind.LoadRing at) ≡ Some d)
  load_taken on room =
      ⊎_elim (λ (go : GathersOn c c.shared.tail from g.block at g.end). (go.on.after, go.on.takes))
      (λ (no : GathersNoMore c at g.end). (no.stays.after, no.stays.takes)) (loads on room)

  module _ (d : Core) (on : in_block (c.seats F).flushing ≡ false → at < c.shared.tail) (room : at < from + RING_WORDS) (e : after_event c F (kind.LoadRing at) ≡ Some d) where
    step : TurnStep c d (kind.LoadRing at)
    step = turn_step c d (kind.LoadRing at) tt e

    shared_is : d.shared ≡ c.shared
    shared_is = step.shared

    leads : (to : Flushing) → (t : Turns c (kind.LoadRing at) to) → (d.seats F).flushing ≡ to
    leads to t = ap (λ (x : Core). (x.seats F).flushing) (same_Some d t.after (sym e ∙ t.takes)) ∙ t.leads

    after_is : (tail block end : ℕ) → (d.seats F).flushing ≡ after_word tail from block at end → tail ≡ d.shared.tail → IsGathering from (at + 1) d
    after_is tail block end is same =
        ⊎_elim
        (λ (last : at + 1 ≡ end).
        record {
          block = end;
          end = end;
          is =
              is ∙ ap (λ (b : Bool). if b then flushing.Gathers tail from end end end else flushing.Gathers tail from block (at + 1) end) (eq-eqb (at + 1) end last)
              ∙ ap (λ (n : ℕ). flushing.Gathers n from end end end) same ∙ ap (λ (n : ℕ). flushing.Gathers d.shared.tail from end n end) (sym last);
        })
        (λ (more : at + 1 ≡ end → ⊥).
        record {
          block = block;
          end = end;
          is =
              is ∙ ap (λ (b : Bool). if b then flushing.Gathers tail from end end end else flushing.Gathers tail from block (at + 1) end) (ne_eqb (at + 1) end more)
              ∙ ap (λ (n : ℕ). flushing.Gathers n from block (at + 1) end) same;
        })
        (cases_eq (at + 1) end)

    tail_is : c.shared.tail ≡ d.shared.tail
    tail_is = sym (ap (λ (s : Shared). s.tail) shared_is)

    goes_on : GathersOn c c.shared.tail from g.block at g.end → HasGathered from (at + 1) c d
    goes_on go =
        record {
          flushes = step.flushes;
          pin = step.pin;
          shared = shared_is;
          gathers =
              ⊎_elim (λ (low : at < g.end). after_is c.shared.tail g.block g.end (leads go.to go.on ∙ go.middle low) tail_is)
              (λ (high : g.end ≤ at).
              let most = gathering.onward.2 in
              after_is c.shared.tail at (at + size_of (ring_at c.shared at)) (leads go.to go.on ∙ (go.header (omega (arith, high, most))).1) tail_is)
              (cases_lt at g.end);
        }

    -- a word of a block, or a header that isn't 0
    pub word_on : (in_block (c.seats F).flushing ≡ true) ⊎ (ring_at c.shared at ≢ 0) → HasGathered from (at + 1) c d
    word_on some =
        ⊎_elim goes_on
        (λ (no : GathersNoMore c at g.end).
        ⊎_elim (λ (yes : in_block (c.seats F).flushing ≡ true). let low = inside yes in let same = no.between in absurd (omega (arith, low, same)))
        (λ (ne : ring_at c.shared at ≢ 0). absurd (ne no.zero)) some)
        (loads on room)

    -- a header that is 0
    pub word_stops : in_block (c.seats F).flushing ≡ false → ring_at c.shared at ≡ 0 → HasGathered from at c d × IsAtStop from at d
    word_stops out none =
        ⊎_elim (λ (go : GathersOn c c.shared.tail from g.block at g.end). absurd ((go.header (outside out)).0 none))
        (λ (no : GathersNoMore c at g.end).
        let same : (d.seats F).flushing ≡ (c.seats F).flushing = leads (turn_of c) no.stays in
        let is : (d.seats F).flushing ≡ flushing.Gathers d.shared.tail from at at at = same ∙ between (outside out) ∙ ap (λ (n : ℕ). flushing.Gathers n from at at at) tail_is in (
          record { flushes = step.flushes; pin = step.pin; shared = shared_is; gathers = record { block = at; end = at; is = is } },
          record { is = is; stop = λ below. open_same c d at step.flushes step.pin no.unsettled },
        ))
        (loads on room)

-- one after another
pub gathered_none : (from at : ℕ) (c : Core) → IsGathering from at c → HasGathered from at c c
gathered_none from at c g = record { flushes = flushes_none c; pin = pin_none c; shared = refl; gathers = g }

pub gathered_both : (from at to : ℕ) (b c d : Core) → HasGathered from at b c → HasGathered from to c d → HasGathered from to b d
gathered_both from at to b c d one two = record {
  flushes = flushes_both b c d one.flushes two.flushes;
  pin = pin_both b c d one.pin two.pin;
  shared = two.shared ∙ one.shared;
  gathers = two.gathers;
}
