-- A session's begin: its three steps, and the first one where it is refused.
use Rattle.std.proofs.Common.{◌≡◌, ℕ, ◌+◌, ◌<◌, ◌≤◌, not, eqb, leb, ltb, cond, Bool, true, false, [], ◌∷◌, length, map, Some, None, refl, sym, ap, ◌∙◌, subst, arith}
use Rattle.std.proofs.lemmas.Bool.{and_from, and_right, cond-false, cond-true, eq-eqb, eqb-false, le-leb, lt-leb, lt-ltb, or_right}
use Rattle.std.proofs.lemmas.List.{length-map}
use Rattle.erm_model.specs.declared.limits.TheConstants.{LAST_NUMBER, STOP}
use Rattle.erm_machine.specs.declared.event.Kind.TheVariants as kind
use Rattle.erm_machine.specs.declared.event.TailUse.TheVariants as purpose
use Rattle.erm_machine.specs.declared.part.Part.{Part}
use Rattle.erm_machine.specs.declared.place.Place.{Place}
use Rattle.erm_machine.specs.declared.place.Place.TheVariants.{Active, Announced, Begun, Idle}
use Rattle.erm_machine.specs.declared.task.Task.TheVariants as task
use Rattle.erm_machine.specs.Core.{Core, begun}
use Rattle.erm_machine.specs.Life.{load_tail, load_tail_to_begin, next_number, store_begin}
use Rattle.erm_machine.specs.Lives.{in_progress}
use Rattle.erm_machine.specs.Seat.{has_number, saw}
use Rattle.erm_machine.specs.Sound.{Sound}
use Rattle.erm_machine.specs.Step.{after_event, run_from}
use Rattle.erm_machine.specs.Tasks.{TaskFits}
use Rattle.erm_machine.specs.declared.limits.TheConstants.{FLUSH_SEAT}
use Rattle.erm_machine.specs.Words.{is_flusher, put, refuses}
use Rattle.erm_machine.proofs.Frames.{put_same}
use Rattle.erm_world.specs.declared.stops.BeginStop.TheVariants as begin
use Rattle.erm_world.specs.Calls.{DidBegin, MayNotBegin}
use Rattle.erm_world.specs.World.{Finished, Session}
use Rattle.erm_world.specs.World as world
use Rattle.erm_core_view.specs.Steps.{RestsAt, begin_steps}
use Rattle.erm_core_view.specs.Views.{finished_of, session_of, stand_of, view_of}
use Rattle.erm_core_view.proofs.Chained.{Alone, alone_put, alone_shows, alone_then, goes, same_view, taken, three_taken}

-- the part after a first load, after the announcement, after the second load
abbrev loaded : Place → ℕ → Part → Part
loaded place tail x = saw tail (record x { place = place })

abbrev announced : ℕ → Part → Part
announced tail x = record (loaded (Begun tail) tail x) { place = Announced tail }

abbrev active : (seat tail : ℕ) → Part → Part
active seat tail x = record x {
  place = Active tail;
  task = task.Rest;
  seen = tail;
  number = next_number seat x.number;
  current = begun (next_number seat x.number) tail;
}

-- the same state with another part of the seat
abbrev with_own : Core → ℕ → Part → Core
with_own c seat y = record { shared = c.shared; seats = put c.seats seat y }

-- the numbers of a session's transactions are those from 1 on
over_counted : (seat : ℕ) (c : Core) → Sound c → is_flusher seat ≡ false → (c.seats seat).place ≡ Idle → (c.seats seat).number ≡ length (c.seats seat).over
over_counted seat c sound session idle =
    let number = (sound.own seat).lives.number session in
    let none = ap in_progress idle in
    omega (arith, number, none)

has_left : (seat : ℕ) (c : Core) → Sound c → is_flusher seat ≡ false → (c.seats seat).place ≡ Idle → length (c.seats seat).over < LAST_NUMBER
    → has_number seat (c.seats seat) ≡ true
has_left seat c sound session idle left =
    let number = over_counted seat c sound session idle in
    or_right (is_flusher seat) (ltb (c.seats seat).number LAST_NUMBER) (lt-ltb (c.seats seat).number LAST_NUMBER (omega (arith, number, left)))

-- the first load, where it is refused and where it isn't
loads_first : (seat tail : ℕ) (x : Part) (b : Bool) → x.place ≡ Idle → has_number seat x ≡ true → refuses seat tail ≡ b
    → load_tail seat purpose.Begin tail x ≡ Some (loaded (cond b Idle (Begun tail)) tail x)
loads_first seat tail x b idle left is =
    ap (λ (place : Place). load_tail_to_begin seat tail x place) idle
    ∙ cond-true (has_number seat x) (Some (loaded (cond (refuses seat tail) Idle (Begun tail)) tail x)) None left
    ∙ ap (λ (r : Bool). Some (loaded (cond r Idle (Begun tail)) tail x)) is

announces : (seat tail : ℕ) (x : Part) → store_begin seat tail (loaded (Begun tail) tail x) (Begun tail) ≡ Some (announced tail x)
announces seat tail x = cond-true (eqb tail tail) (Some (announced tail x)) None (eq-eqb tail tail refl)

loads_again : (seat tail : ℕ) (x : Part) → has_number seat x ≡ true → load_tail seat purpose.Begin tail (announced tail x) ≡ Some (active seat tail x)
loads_again seat tail x left = cond-true (has_number seat x) (Some (active seat tail x)) None left

module _ (seat : ℕ) (c : Core) (sound : Sound c) (session : is_flusher seat ≡ false) (idle : (c.seats seat).place ≡ Idle)
    (left : length (c.seats seat).over < LAST_NUMBER) where
  -- where the tail is below the last place at which transactions begin the three steps are taken
  begins_alone : c.shared.tail < STOP → Alone seat c (active seat c.shared.tail (c.seats seat)) (run_from c (begin_steps seat c.shared.tail))
  begins_alone below =
      let tail : ℕ = c.shared.tail in
      let x : Part = c.seats seat in
      let one : Core = with_own c seat (loaded (Begun tail) tail x) in
      let two : Core = with_own one seat (announced tail x) in
      let three : Core = with_own two seat (active seat tail x) in
      let number : has_number seat x ≡ true = has_left seat c sound session idle left in
      let open_still : refuses seat tail ≡ false = and_right (not (is_flusher seat)) (leb STOP tail) (lt-leb STOP tail below) in
      let first : after_event c seat (kind.LoadTail purpose.Begin) ≡ Some one =
      goes c seat (kind.LoadTail purpose.Begin) (loaded (Begun tail) tail x) tt refl (loads_first seat tail x false idle number open_still) in
      let second : after_event one seat (kind.StoreBegin tail) ≡ Some two =
      goes one seat (kind.StoreBegin tail) (announced tail x) tt refl
      (ap (λ (y : Part). store_begin seat tail y y.place) (put_same c.seats seat (loaded (Begun tail) tail x)) ∙ announces seat tail x) in
      let third : after_event two seat (kind.LoadTail purpose.Begin) ≡ Some three =
      goes two seat (kind.LoadTail purpose.Begin) (active seat tail x) tt refl
      (ap (λ (y : Part). load_tail seat purpose.Begin tail y) (put_same one.seats seat (announced tail x)) ∙ loads_again seat tail x number) in
      let run : run_from c (begin_steps seat tail) ≡ three =
      three_taken c one two three seat (kind.LoadTail purpose.Begin) (kind.StoreBegin tail) (kind.LoadTail purpose.Begin) first second third in
      subst (λ (d : Core). Alone seat c (active seat tail x) d) (sym run)
      (alone_then seat c (announced tail x) two (active seat tail x) three
      (alone_then seat c (loaded (Begun tail) tail x) one (announced tail x) two (alone_put seat c (loaded (Begun tail) tail x)) (alone_put seat one (announced tail x)))
      (alone_put seat two (active seat tail x)))

  -- the first load alone, where it is refused
  refused_alone : STOP ≤ c.shared.tail
      → Alone seat c (loaded Idle c.shared.tail (c.seats seat)) (run_from c (record { seat = seat; kind = kind.LoadTail purpose.Begin } ∷ []))
  refused_alone above =
      let tail : ℕ = c.shared.tail in
      let x : Part = c.seats seat in
      let one : Core = with_own c seat (loaded Idle tail x) in
      let number : has_number seat x ≡ true = has_left seat c sound session idle left in
      let shut : refuses seat tail ≡ true = and_from (not (is_flusher seat)) (leb STOP tail) (ap not session) (le-leb STOP tail above) in
      let first : after_event c seat (kind.LoadTail purpose.Begin) ≡ Some one =
      goes c seat (kind.LoadTail purpose.Begin) (loaded Idle tail x) tt refl (loads_first seat tail x true idle number shut) in
      subst (λ (d : Core). Alone seat c (loaded Idle tail x) d) (sym (taken c one seat (kind.LoadTail purpose.Begin) [] first)) (alone_put seat c (loaded Idle tail x))

  -- the transaction's number is one more than how many are over
  numbered_next : next_number seat (c.seats seat).number ≡ length (map finished_of (c.seats seat).over) + 1
  numbered_next =
      let count = length-map (c.seats seat).over finished_of in
      let number = over_counted seat c sound session idle in
      let next = cond-false (is_flusher seat) (c.seats seat).number ((c.seats seat).number + 1) session in
      omega (arith, count, number, next)

  -- an idle seat rests
  at_rest : (c.seats seat).task ≡ task.Rest
  at_rest = subst (λ (place : Place). TaskFits place (c.seats seat).current (c.seats seat).task) idle (sound.own seat).task.fits

  pub begins : (sessions : ℕ) → c.shared.tail < STOP
      → DidBegin (view_of sessions c) seat c.shared.tail (view_of sessions (run_from c (begin_steps seat c.shared.tail)))
  begins sessions below = (
    (let count = length-map (c.seats seat).over finished_of in omega (arith, count, left)),
    below,
    refl,
    alone_shows sessions seat c (active seat c.shared.tail (c.seats seat)) (run_from c (begin_steps seat c.shared.tail)) _ (begins_alone below) (λ same. absurd (eqb-false seat FLUSH_SEAT session same))
        (ap (λ (n : ℕ). record { over = map finished_of (c.seats seat).over; stand = world.active (world.begun n c.shared.tail) }) numbered_next),
  )

  pub begun_rests : c.shared.tail < STOP → RestsAt seat (Active c.shared.tail) (run_from c (begin_steps seat c.shared.tail))
  begun_rests below =
      let own = (begins_alone below).own in record { place = ap (λ (y : Part). y.place) own; rests = ap (λ (y : Part). y.task) own }

  pub refused : (sessions : ℕ) → STOP ≤ c.shared.tail
      → MayNotBegin (view_of sessions c) seat (begin.LogEnd c.shared.tail)
      (view_of sessions (run_from c (record { seat = seat; kind = kind.LoadTail purpose.Begin } ∷ [])))
  refused sessions above =
      let d : Core = run_from c (record { seat = seat; kind = kind.LoadTail purpose.Begin } ∷ []) in
      let x : Part = c.seats seat in
      let same : session_of (loaded Idle c.shared.tail x) ≡ session_of x =
      ap (λ (place : Place). record { over = map finished_of x.over; stand = stand_of place x.task x.current }) (sym idle) in
      let count = length-map x.over finished_of in (
        same_view (view_of sessions c) seat (view_of sessions d) refl
            (alone_shows sessions seat c (loaded Idle c.shared.tail x) d (session_of x) (refused_alone above) (λ here. absurd (eqb-false seat FLUSH_SEAT session here)) same),
        omega (arith, count, left),
        refl,
        above,
      )

  pub refused_rests : STOP ≤ c.shared.tail → RestsAt seat Idle (run_from c (record { seat = seat; kind = kind.LoadTail purpose.Begin } ∷ []))
  refused_rests above =
      let own = (refused_alone above).own in
      record { place = ap (λ (y : Part). y.place) own; rests = ap (λ (y : Part). y.task) own ∙ at_rest }
