-- A begin of a session of the word table, beside others.
use Rattle.std.proofs.Common.{◌≡◌, ℕ, ◌+◌, ◌≤◌, ◌<◌, ⊎_elim, Bool, true, false, not, ltb, leb, List, [], ◌∷◌, length, Some, Result, Ok, Err, IfOk, IfErr, refl, sym, ap, ◌∙◌, subst, arith, le_trans}
use Rattle.std.specs.Prelude.{if◌then◌else◌}
use Rattle.std.proofs.lemmas.Bool.{and_from, and_parts, cases_lt, eqb-true, le-leb, leb-true, ltb-true, or_cases}
use Rattle.std.proofs.lemmas.List.{length-map}
use Rattle.erm_model.specs.declared.limits.TheConstants.{LAST_NUMBER, STOP}
use Rattle.erm_model.specs.declared.outcome.Phase.TheVariants as phase
use Rattle.erm_model.specs.RowTransaction.{Law}
use Rattle.erm_machine.specs.declared.event.Kind.{Kind}
use Rattle.erm_machine.specs.declared.event.Kind.TheVariants as kind
use Rattle.erm_machine.specs.declared.event.TailUse.TheVariants as purpose
use Rattle.erm_machine.specs.declared.part.Part.{Part}
use Rattle.erm_machine.specs.declared.place.Place.{Place}
use Rattle.erm_machine.specs.declared.place.Place.TheVariants as place
use Rattle.erm_machine.specs.Core.{blank, Core}
use Rattle.erm_machine.specs.Life.{load_tail_to_begin, next_number}
use Rattle.erm_machine.specs.Lives.{in_progress}
use Rattle.erm_machine.specs.Seat.{has_number, saw}
use Rattle.erm_machine.specs.Sound.{Sound}
use Rattle.erm_machine.specs.Step.{after_event}
use Rattle.erm_machine.specs.Words.{is_flusher, is_session, refuses}
use Rattle.erm_machine.proofs.Guards.{when_then}
use Rattle.erm_core_stays.specs.Staying.{Rises}
use Rattle.erm_core_view.specs.Views.{session_of}
use Rattle.erm_rule.specs.declared.view.Book.{Book}
use Rattle.erm_rule.specs.Books.{IsAfter, IsBookOf}
use Rattle.erm_rule.specs.Hands.{IsKnown}
use Rattle.erm_rule.specs.Steps.{Booked}
use Rattle.erm_rule.specs.Views.{part_in, part_of}
use Rattle.erm_rule.specs.Went.{Took}
use Rattle.erm_rule.proofs.Telling.{part_of-changed}
use Rattle.erm_rule.proofs.Wents.{took_goes}
use Rattle.erm_seats.specs.Calls.{begun_part}
use Rattle.erm_seats.specs.Calls as seats
use Rattle.erm_seats.specs.Took.{TookBegin}
use Rattle.erm_session.specs.declared.session.Stage.{Stage}
use Rattle.erm_session.specs.declared.session.Stage.TheVariants as stage
use Rattle.erm_session.specs.Session.{StageIs, phase_of}
use Rattle.erm_session.specs.Calls as calls
use Rattle.erm_session.specs.Took.{TookNoBegin}
use Rattle.erm_beside.specs.Calls.{After, DidBeginBeside, MayNotBeginBeside, Passes}
use Rattle.erm_beside.specs.Later.{IsLater}
use Rattle.erm_lone.proofs.Later.{world_begins, world_same}
use Rattle.erm_world.specs.declared.stops.BeginStop.{BeginStop}
use Rattle.erm_world.specs.declared.stops.BeginStop.TheVariants as stop
use Rattle.erm_world.specs.Calls.{Works}
use Rattle.erm_world.specs.World.{Session, View, begun}
use Rattle.erm_world.specs.World as world
use Rattle.erm_own_view.specs.Own.{MayCall, own_view}
use Rattle.erm_own_view.proofs.Along.{found_then, state_before}
use Rattle.erm_own_view.proofs.Own.{own_becomes, own_is, own_passes, own_same, seat_is}
use Rattle.erm_shared_session.specs.Seen.{tail_after}
use Rattle.erm_shared_session.proofs.Standing.{IsSeen}
use Rattle.erm_machine.specs.Facts.{IsCurrent}
use Rattle.erm_core_shown.specs.Shown.{given_up_of}
use Rattle.erm_core_shown.proofs.Given.{given_by, given_stays}

-- A session of an idle stage has an idle seat.
pub idle_place : (g : Stage) (x : Part) → phase_of g ≡ phase.Idle → StageIs g x → x.place ≡ place.Idle
idle_place stage.Idle x idle is = is
idle_place (stage.Active t) x idle is = absurd (cc)
idle_place (stage.Sealed t) x idle is = absurd (cc)
idle_place (stage.Pending begin next) x idle is = absurd (cc)
idle_place (stage.Safe begin) x idle is = absurd (cc)

-- one step alone
pub one_step : (law : Law) (who : ℕ) (s : Kind × ℕ) (b e : Book) → Took law who (s ∷ []) b e → Booked law b who s.0 s.1 e
one_step law who s b e took = subst (λ (z : Book). Booked law z who s.0 s.1 e) took.1 took.2

-- a session that has loaded the tail to begin has a number left
met_number : (seat found : ℕ) (x y : Part) → x.place ≡ place.Idle → load_tail_to_begin seat found x x.place ≡ Some y → has_number seat x ≡ true
met_number seat found x y idle e =
    when_then (λ _. has_number seat x ≡ true) (has_number seat x) _ y (sym (ap (load_tail_to_begin seat found x) idle) ∙ e) (λ t. t)

pub plain_seat : (seat : ℕ) → is_session seat ≡ true → is_flusher seat ≡ false
plain_seat seat is = by_test (is_flusher seat) refl
  where
    by_test : (t : Bool) → is_flusher seat ≡ t → is_flusher seat ≡ false
    by_test true flusher = absurd (let low = leb-true seat 48 (and_parts (ltb 0 seat) (leb seat 48) is).1 in let at = eqb-true seat 49 flusher in omega (arith, low, at))
    by_test false plain = plain

pub tail_low : (seat tail : ℕ) → is_flusher seat ≡ false → refuses seat tail ≡ false → tail < STOP
tail_low seat tail plain low =
    ⊎_elim (λ (less : tail < STOP). less)
    (λ (high : STOP ≤ tail). absurd (let is : refuses seat tail ≡ true = and_from _ _ (ap not plain) (le-leb STOP tail high) in cc))
    (cases_lt tail STOP)

module _ (law : Law) (seat tail flushed : ℕ) (b e : Book) (may : MayCall law seat tail flushed b) (idle : (part_of b.view seat).place ≡ place.Idle) (start : e.start ≡ b.start)
    (held : part_in b.view seat ≡ Some (part_of b.view seat))
    (rises : (c d : Core) (q : ℕ) (k : Kind) → Sound c → after_event c q k ≡ Some d → Rises c.shared d.shared)
    (seen : (z : Book) → IsAfter b z → IsSeen tail flushed z) where
  abbrev x : Part
  x = part_of b.view seat

  abbrev own : View
  own = own_view seat tail flushed b

  numbered : x.number ≡ length x.over
  numbered =
      let here = seat_is b seat may.core may.between may.is in
      let plain = plain_seat seat may.session in
      let all : x.number ≡ length x.over + in_progress x.place =
      subst (λ (y : Part). y.number ≡ length y.over + in_progress y.place) here ((may.under.sound.own seat).lives.number plain)
      in
      let none : in_progress x.place ≡ 0 = ap in_progress idle in
      omega (arith, all, none)

  pub over_numbered : length (own.session seat).over ≡ x.number
  over_numbered = ap (λ (s : Session). length s.over) (own_is seat tail flushed b) ∙ length-map x.over _ ∙ sym numbered

  -- the first load
  pub number_left : (found : ℕ) (m : Book) → Booked law b seat (kind.LoadTail purpose.Begin) found m → x.number < LAST_NUMBER
  number_left found m booked =
      let told = booked.under.told in
      let here : told.before.seats seat ≡ x = told.is_view seat x held in
      let after : load_tail_to_begin seat found x x.place ≡ Some told.part = subst (λ (y : Part). load_tail_to_begin seat found y y.place ≡ Some told.part) here told.part_is in
      let has = met_number seat found x told.part idle after in
      ⊎_elim
      (λ (flusher : is_flusher seat ≡ true). absurd (let plain = plain_seat seat may.session in cc))
      (λ (less : ltb x.number LAST_NUMBER ≡ true). ltb-true x.number LAST_NUMBER less)
      (or_cases (is_flusher seat) (ltb x.number LAST_NUMBER) has)

  -- a load meets the log's end, at or above what was seen, and each state after it has come as far
  pub loaded : (m z : Book) (found : ℕ) → IsAfter b m → Booked law m seat (kind.LoadTail purpose.Begin) found z → (tail ≤ found) × ((c : Core) → IsBookOf z c → found ≤ c.shared.tail)
  loaded m z found goes booked =
      let before = booked.under.told.before in
      let low = (seen m goes before (state_before law m seat (kind.LoadTail purpose.Begin) found z booked)).0 in
      let met : before.shared.tail ≡ found = booked.under.told.met in (
        omega (arith, low, met),
        found_then law (λ (c : Core). found ≤ c.shared.tail) (λ c d passes at. le_trans at (rises c d passes.1.0 passes.1.1 passes.0 passes.1.2).tail) m seat (kind.LoadTail purpose.Begin) found z booked
            (λ c is tail_is. let is_end : c.shared.tail ≡ found = tail_is in omega (arith, is_end)),
      )

  pub record Begins (begin : ℕ) : Type 0 where
    pub below : tail < STOP
    pub more : tail ≤ begin
    pub seen_now : IsSeen begin flushed e
    pub did : After seat (DidBeginBeside seat begin) own (own_view seat begin flushed e)
    pub later : IsLater (own.session seat) ((own_view seat begin flushed e).session seat)

  begun_shown : (begin : ℕ) → seats.DidBegin b.view seat begin e.view
      → session_of (part_of e.view seat) ≡ record { over = (own.session seat).over; stand = world.active (begun (length (own.session seat).over + 1) begin) }
  begun_shown begin did =
      let after : part_of e.view seat ≡ begun_part seat did.announced begin x = part_of-changed b.view seat e.view (begun_part seat did.announced begin x) x held did.view_is in
      let plain = plain_seat seat may.session in
      let next : next_number seat x.number ≡ x.number + 1 = ap (λ (t : Bool). if t then x.number else x.number + 1) plain in
      let all = over_numbered in
      let number : next_number seat x.number ≡ length (own.session seat).over + 1 = omega (arith, next, all) in
      ap session_of after
      ∙ ap (λ (n : ℕ). record { over = (session_of x).over; stand = world.active (begun n begin) }) number
      ∙ ap (λ (s : Session). record { over = s.over; stand = world.active (begun (length (own.session seat).over + 1) begin) }) (sym (own_is seat tail flushed b))

  -- none had been given up by the transaction that begins
  begun_given : (begin : ℕ) → seats.DidBegin b.view seat begin e.view → given_up_of (part_of e.view seat) ≡ given_up_of x
  begun_given begin did =
      let after : part_of e.view seat ≡ begun_part seat did.announced begin x = part_of-changed b.view seat e.view (begun_part seat did.announced begin x) x held did.view_is in
      let here = seat_is b seat may.core may.between may.is in
      let current : IsCurrent x.place x.current = subst (λ (y : Part). IsCurrent y.place y.current) here (may.under.sound.own seat).ranges.current in
      let none : x.current ≡ blank = subst (λ (pl : Place). IsCurrent pl x.current) idle current in
      ap given_up_of after ∙ given_stays x (begun_part seat did.announced begin x) refl (sym (ap given_by none))

  pub begins : (begin : ℕ) → (own.session seat).stand ≡ world.idle → TookBegin law seat begin b e → seats.DidBegin b.view seat begin e.view → Begins begin
  begins begin stand took did =
      let steps = took.took in
      let first = one_step law seat (kind.LoadTail purpose.Begin, took.announced) b steps.1.0 steps.1.1 in
      let goes_one : IsAfter b b = took_goes law seat [] b b refl in
      let goes_two : IsAfter b steps.0 = took_goes law seat ((kind.StoreBegin took.announced, took.word) ∷ (kind.LoadTail purpose.Begin, took.announced) ∷ []) b steps.0 steps.1 in
      let goes_all : IsAfter b e = took_goes law seat ((kind.LoadTail purpose.Begin, begin) ∷ (kind.StoreBegin took.announced, took.word) ∷ (kind.LoadTail purpose.Begin, took.announced) ∷ []) b e steps in
      let low = (loaded b steps.1.0 took.announced goes_one first).0 in
      let stop = tail_low seat took.announced (plain_seat seat may.session) took.low in
      let last = loaded steps.0 e begin goes_two steps.2 in
      let more = last.0 in
      let less = number_left took.announced steps.1.0 first in
      let all = over_numbered in
      let there = own_view seat begin flushed b in
      let works : Works there seat (begun (length (own.session seat).over + 1) begin) (own_view seat begin flushed e) =
      own_becomes seat begin flushed b e (record { over = (own.session seat).over; stand = world.active (begun (length (own.session seat).over + 1) begin) }) start (begun_shown begin did) (begun_given begin did)
      in
      record {
        below = omega (arith, low, stop);
        more = more;
        seen_now = λ c is. (last.1 c is, (seen e goes_all c is).1);
        did = (there, own_passes seat tail flushed begin flushed b more (omega arith), (omega (arith, less, all), refl, works));
        later = (world_begins there (own_view seat begin flushed e) seat (begun (length (own.session seat).over + 1) begin) stand works).session seat;
      }

  -- NOT BEGUN
  pub record Stays (why : BeginStop) : Type 0 where
    pub more : tail ≤ tail_after tail (Err why)
    pub seen_now : IsSeen (tail_after tail (Err why)) flushed e
    pub did : After seat (MayNotBeginBeside seat why) own (own_view seat (tail_after tail (Err why)) flushed e)
    pub later : IsLater (own.session seat) ((own_view seat (tail_after tail (Err why)) flushed e).session seat)

  stays_at : (at : ℕ) (why : BeginStop) → tail_after tail (Err why) ≡ at → tail ≤ at → IsSeen at flushed e → session_of (part_of e.view seat) ≡ session_of x
      → given_up_of (part_of e.view seat) ≡ given_up_of x → MayNotBeginBeside seat why (own_view seat at flushed e) (own_view seat at flushed e) → Stays why
  stays_at at why is more seen_then same given did =
      let now : own_view seat at flushed e ≡ own_view seat at flushed b = own_same seat at flushed b e start same given in
      let passes : Passes seat own (own_view seat at flushed e) = subst (λ (v : View). Passes seat own v) (sym now) (own_passes seat tail flushed at flushed b more (omega arith)) in
      let later : IsLater (own.session seat) ((own_view seat at flushed e).session seat) =
      subst (λ (v : View). IsLater (own.session seat) (v.session seat)) (sym now) ((world_same own own refl).session seat)
      in
      record {
        more = subst (λ (n : ℕ). tail ≤ n) (sym is) more;
        seen_now = subst (λ (n : ℕ). IsSeen n flushed e) (sym is) seen_then;
        did = subst (λ (n : ℕ). After seat (MayNotBeginBeside seat why) own (own_view seat n flushed e)) (sym is) (own_view seat at flushed e, passes, did);
        later = subst (λ (n : ℕ). IsLater (own.session seat) ((own_view seat n flushed e).session seat)) (sym is) later;
      }

  shown_number : (at : ℕ) → session_of (part_of e.view seat) ≡ session_of x → length ((own_view seat at flushed e).session seat).over ≡ x.number
  shown_number at same = ap (λ (s : Session). length s.over) (own_is seat at flushed e ∙ same ∙ sym (own_is seat tail flushed b)) ∙ over_numbered

  not_begun : (why : BeginStop) → TookNoBegin law seat why b e → calls.MayNotBegin b.view seat why e.view → Stays why
  not_begun stop.NumbersEnd took refused =
      let same : session_of (part_of e.view seat) ≡ session_of x = ap (λ (z : Book). session_of (part_of z.view seat)) took in
      stays_at tail stop.NumbersEnd refl (omega arith) (seen e (took_goes law seat [] b e took)) same
      (ap (λ (z : Book). given_up_of (part_of z.view seat)) took) (refl, shown_number tail same ∙ refused.1)
  not_begun (stop.LogEnd found) took refused =
      let after : part_of e.view seat ≡ saw found x = part_of-changed b.view seat e.view (saw found x) x held refused.2 in
      let same : session_of (part_of e.view seat) ≡ session_of x = ap session_of after in
      let one = one_step law seat (kind.LoadTail purpose.Begin, found) b e took.1 in
      let goes = took_goes law seat ((kind.LoadTail purpose.Begin, found) ∷ []) b e took.1 in
      let met = loaded b e found (took_goes law seat [] b b refl) one in
      let less = number_left found e one in
      let number = shown_number found same in
      stays_at found (stop.LogEnd found) refl met.0 (λ c is. (met.1 c is, (seen e goes c is).1)) same (ap given_up_of after) (refl, omega (arith, less, number), refl, refused.0)
  not_begun stop.Memory took refused = absurd took

  -- what became of a begin
  pub record Told (r : Result ℕ BeginStop) : Type 0 where
    pub more : tail ≤ tail_after tail r
    pub seen_now : IsSeen (tail_after tail r) flushed e
    pub below : IfOk r (λ begin. tail < STOP)
    pub ok : IfOk r (λ begin. After seat (DidBeginBeside seat begin) own (own_view seat (tail_after tail r) flushed e))
    pub err : IfErr r (λ why. After seat (MayNotBeginBeside seat why) own (own_view seat (tail_after tail r) flushed e))
    pub later : IsLater (own.session seat) ((own_view seat (tail_after tail r) flushed e).session seat)

  pub told : (r : Result ℕ BeginStop) → (own.session seat).stand ≡ world.idle → IfOk r (λ begin. TookBegin law seat begin b e) → IfErr r (λ why. TookNoBegin law seat why b e)
      → IfOk r (λ begin. seats.DidBegin b.view seat begin e.view) → IfErr r (λ why. calls.MayNotBegin b.view seat why e.view) → Told r
  told (Ok begin) stand took none did refused =
      let done = begins begin stand took did in
      record { more = done.more; seen_now = done.seen_now; below = done.below; ok = done.did; err = tt; later = done.later }
  told (Err why) stand took none did refused =
      let done = not_begun why none refused in
      record { more = done.more; seen_now = done.seen_now; below = tt; ok = tt; err = done.did; later = done.later }

-- the steps of a begin, and that the pass's view is known after them
pub steps_of : (law : Law) (seat : ℕ) (b e : Book) (r : Result ℕ BeginStop) → IfOk r (λ begin. TookBegin law seat begin b e) → IfErr r (λ why. TookNoBegin law seat why b e)
    → (steps : List (Kind × ℕ)) × Took law seat steps b e
steps_of law seat b e (Ok begin) took none =
    ((kind.LoadTail purpose.Begin, begin) ∷ (kind.StoreBegin took.announced, took.word) ∷ (kind.LoadTail purpose.Begin, took.announced) ∷ [], took.took)
steps_of law seat b e (Err stop.NumbersEnd) took none = ([], none)
steps_of law seat b e (Err (stop.LogEnd found)) took none = ((kind.LoadTail purpose.Begin, found) ∷ [], none.1)
steps_of law seat b e (Err stop.Memory) took none = absurd none

pub known_of : (law : Law) (seat : ℕ) (b e : Book) (r : Result ℕ BeginStop) → IsKnown b.view → IfOk r (λ begin. seats.DidBegin b.view seat begin e.view) → IfErr r (λ why. calls.MayNotBegin b.view seat why e.view) → IsKnown e.view
known_of law seat b e (Ok begin) known did refused = did.known
known_of law seat b e (Err stop.NumbersEnd) known did refused = subst IsKnown (sym refused.0) known
known_of law seat b e (Err (stop.LogEnd found)) known did refused = refused.4
known_of law seat b e (Err stop.Memory) known did refused = absurd refused
