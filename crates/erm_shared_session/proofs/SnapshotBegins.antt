-- A begin of a snapshot of a session of the word table, beside others.
use Rattle.std.proofs.Common.{◌≡◌, ℕ, ◌+◌, ◌≤◌, ◌<◌, false, List, [], ◌∷◌, length, Some, Result, Ok, Err, IfOk, IfErr, refl, sym, ap, ◌∙◌, subst, arith, le_trans}
use Rattle.std.specs.Prelude.{if◌then◌else◌}
use Rattle.erm_model.specs.declared.limits.TheConstants.{STOP}
use Rattle.erm_model.specs.RowTransaction.{Law}
use Rattle.erm_machine.specs.declared.event.Kind.{Kind}
use Rattle.erm_machine.specs.declared.event.Kind.TheVariants as kind
use Rattle.erm_machine.specs.declared.event.TailUse.TheVariants as purpose
use Rattle.erm_machine.specs.declared.part.Part.{Part}
use Rattle.erm_machine.specs.declared.place.Place.{Place}
use Rattle.erm_machine.specs.declared.place.Place.TheVariants as place
use Rattle.erm_machine.specs.Core.{Core, blank}
use Rattle.erm_machine.specs.Facts.{IsCurrent}
use Rattle.erm_machine.specs.Life.{next_number}
use Rattle.erm_core_shown.specs.Shown.{given_up_of}
use Rattle.erm_core_shown.proofs.Given.{given_by, given_stays}
use Rattle.erm_core_view.specs.Views.{session_of}
use Rattle.erm_rule.specs.declared.view.Book.{Book}
use Rattle.erm_rule.specs.Books.{IsAfter, IsBookOf}
use Rattle.erm_rule.specs.Hands.{IsKnown}
use Rattle.erm_rule.specs.Steps.{Booked}
use Rattle.erm_rule.specs.Views.{part_in, part_of}
use Rattle.erm_rule.specs.Went.{Took}
use Rattle.erm_rule.proofs.Telling.{part_of-changed}
use Rattle.erm_rule.proofs.Wents.{took_goes}
use Rattle.erm_seats.specs.Safe.{TookBeginSafe, pending_part}
use Rattle.erm_seats.specs.Safe as seats
use Rattle.erm_session.specs.Calls as calls
use Rattle.erm_session.specs.Took.{TookNoBegin}
use Rattle.erm_beside.specs.Calls.{After, MayNotBeginBeside}
use Rattle.erm_beside.specs.Later.{IsLater}
use Rattle.erm_beside.specs.Safe.{DidBeginSafeBeside}
use Rattle.erm_lone.proofs.Later.{world_begins_safe}
use Rattle.erm_world.specs.declared.stops.BeginStop.{BeginStop}
use Rattle.erm_world.specs.Calls.{Becomes}
use Rattle.erm_world.specs.Safe.{with_snapshot}
use Rattle.erm_world.specs.World.{Session, Snapshot, View}
use Rattle.erm_world.specs.World as world
use Rattle.erm_own_view.specs.Own.{MayCall, own_view}
use Rattle.erm_own_view.proofs.Along.{of_later, was_before, was_itself}
use Rattle.erm_own_view.proofs.Own.{own_becomes, own_is, own_passes, seat_is}
use Rattle.erm_shared_session.specs.Seen.{tail_after}
use Rattle.erm_shared_session.proofs.Beginning as beginning
use Rattle.erm_shared_session.proofs.Beginning.{known_of, one_step, plain_seat, steps_of, tail_low}
use Rattle.erm_shared_session.proofs.Standing.{IsSeen, Rise, SeenThen}

-- ITS STEPS: those of a begin, and one store more
began_took : (law : Law) (seat begin : ℕ) (b e : Book) → TookBeginSafe law seat begin b e → (steps : List (Kind × ℕ)) × Took law seat steps b e
began_took law seat begin b e took = (
  (kind.StoreBegin begin, took.word) ∷ (kind.LoadTail purpose.Begin, begin) ∷ (kind.StoreBegin took.begins.announced, took.begins.word) ∷ (kind.LoadTail purpose.Begin, took.begins.announced) ∷ [],
  (took.begun, took.begins.took, took.raises),
)

pub safe_steps_of : (law : Law) (seat : ℕ) (b e : Book) (r : Result ℕ BeginStop) → IfOk r (λ begin. TookBeginSafe law seat begin b e) → IfErr r (λ why. TookNoBegin law seat why b e)
    → (steps : List (Kind × ℕ)) × Took law seat steps b e
safe_steps_of law seat b e (Ok begin) took none = began_took law seat begin b e took
safe_steps_of law seat b e (Err why) took none = steps_of law seat b e (Err why) tt none

pub safe_known_of : (law : Law) (seat : ℕ) (b e : Book) (r : Result ℕ BeginStop) → IsKnown b.view → IfOk r (λ begin. seats.DidBeginSafe b.view seat begin e.view)
    → IfErr r (λ why. calls.MayNotBegin b.view seat why e.view) → IsKnown e.view
safe_known_of law seat b e (Ok begin) known did refused = did.known
safe_known_of law seat b e (Err why) known did refused = known_of law seat b e (Err why) known tt refused

module _ (law : Law) (seat tail flushed : ℕ) (b e : Book) (may : MayCall law seat tail flushed b) (idle : (part_of b.view seat).place ≡ place.Idle) (start : e.start ≡ b.start)
    (held : part_in b.view seat ≡ Some (part_of b.view seat)) (rises : Rise) (seen : SeenThen tail flushed b) where
  abbrev x : Part
  x = part_of b.view seat

  abbrev own : View
  own = own_view seat tail flushed b

  over_numbered : length (own.session seat).over ≡ x.number
  over_numbered = beginning.over_numbered law seat tail flushed b e may idle start held rises seen

  loaded : (m z : Book) (found : ℕ) → IsAfter b m → Booked law m seat (kind.LoadTail purpose.Begin) found z → (tail ≤ found) × ((c : Core) → IsBookOf z c → found ≤ c.shared.tail)
  loaded = beginning.loaded law seat tail flushed b e may idle start held rises seen

  abbrev pending : ℕ → Snapshot
  pending begin = record { number = length (own.session seat).over + 1; begin = begin; is_safe = false }

  changed : (begin : ℕ) → seats.DidBeginSafe b.view seat begin e.view → part_of e.view seat ≡ pending_part seat begin x
  changed begin did = part_of-changed b.view seat e.view (pending_part seat begin x) x held did.view_is

  pending_shown : (begin : ℕ) → seats.DidBeginSafe b.view seat begin e.view → session_of (part_of e.view seat) ≡ with_snapshot own seat (pending begin)
  pending_shown begin did =
      let next : next_number seat x.number ≡ x.number + 1 = ap (λ t. if t then x.number else x.number + 1) (plain_seat seat may.session) in
      let all = over_numbered in
      let number : next_number seat x.number ≡ length (own.session seat).over + 1 = omega (arith, next, all) in
      ap session_of (changed begin did)
      ∙ ap (λ (n : ℕ). let s : Session = record { over = (session_of x).over; stand = world.snapshot (record { number = n; begin = begin; is_safe = false }) } in s) number
      ∙ ap (λ (r : Session). let s : Session = record { over = r.over; stand = world.snapshot (pending begin) } in s) (sym (own_is seat tail flushed b))

  -- none had been given up by the snapshot that begins
  pending_given : (begin : ℕ) → seats.DidBeginSafe b.view seat begin e.view → given_up_of (part_of e.view seat) ≡ given_up_of x
  pending_given begin did =
      let here = seat_is b seat may.core may.between may.is in
      let current : IsCurrent x.place x.current = subst (λ (y : Part). IsCurrent y.place y.current) here (may.under.sound.own seat).ranges.current in
      let none : x.current ≡ blank = subst (λ (pl : Place). IsCurrent pl x.current) idle current in
      ap given_up_of (changed begin did) ∙ given_stays x (pending_part seat begin x) refl (sym (ap given_by none))

  pub record BeginsSafe (begin : ℕ) : Type 0 where
    pub below : tail < STOP
    pub more : tail ≤ begin
    pub seen_now : IsSeen begin flushed e
    pub did : After seat (DidBeginSafeBeside seat begin) own (own_view seat begin flushed e)
    pub later : IsLater (own.session seat) ((own_view seat begin flushed e).session seat)

  begins_safe : (begin : ℕ) → (own.session seat).stand ≡ world.idle → TookBeginSafe law seat begin b e → seats.DidBeginSafe b.view seat begin e.view → BeginsSafe begin
  begins_safe begin stand took did =
      let steps = took.begins.took in
      let m = took.begun in
      let first = one_step law seat (kind.LoadTail purpose.Begin, took.begins.announced) b steps.1.0 steps.1.1 in
      let goes_two : IsAfter b steps.0 = took_goes law seat ((kind.StoreBegin took.begins.announced, took.begins.word) ∷ (kind.LoadTail purpose.Begin, took.begins.announced) ∷ []) b steps.0 steps.1 in
      let all_steps = began_took law seat begin b e took in
      let goes_all : IsAfter b e = took_goes law seat all_steps.0 b e all_steps.1 in
      let goes_last : IsAfter m e = took_goes law seat ((kind.StoreBegin begin, took.word) ∷ []) m e (m, refl, took.raises) in
      let low = (loaded b steps.1.0 took.begins.announced (took_goes law seat [] b b refl) first).0 in
      let stop = tail_low seat took.begins.announced (plain_seat seat may.session) took.begins.low in
      let last = loaded steps.0 m begin goes_two steps.2 in
      let more = last.0 in
      let less = beginning.number_left law seat tail flushed b e may idle start held rises seen took.begins.announced steps.1.0 first in
      let all = over_numbered in
      let there = own_view seat begin flushed b in
      let becomes : Becomes there seat (with_snapshot there seat (pending begin)) (own_view seat begin flushed e) =
      own_becomes seat begin flushed b e (with_snapshot there seat (pending begin)) start (pending_shown begin did) (pending_given begin did)
      in
      record {
        below = omega (arith, low, stop);
        more = more;
        seen_now = λ c is. (
          of_later (λ (d : Core). begin ≤ d.shared.tail) (λ d f passes at. le_trans at (rises d f passes.1.0 passes.1.1 passes.0 passes.1.2).tail) m c last.1 (was_before m e c goes_last (was_itself e c is)),
          (seen e goes_all c is).1,
        );
        did = (there, own_passes seat tail flushed begin flushed b more (omega arith), (omega (arith, less, all), refl, becomes));
        later = (world_begins_safe there (own_view seat begin flushed e) seat (pending begin) stand becomes).session seat;
      }

  -- what became of the begin of a snapshot
  pub record ToldSafe (r : Result ℕ BeginStop) : Type 0 where
    pub more : tail ≤ tail_after tail r
    pub seen_now : IsSeen (tail_after tail r) flushed e
    pub below : IfOk r (λ begin. tail < STOP)
    pub ok : IfOk r (λ begin. After seat (DidBeginSafeBeside seat begin) own (own_view seat (tail_after tail r) flushed e))
    pub err : IfErr r (λ why. After seat (MayNotBeginBeside seat why) own (own_view seat (tail_after tail r) flushed e))
    pub later : IsLater (own.session seat) ((own_view seat (tail_after tail r) flushed e).session seat)

  pub told_safe : (r : Result ℕ BeginStop) → (own.session seat).stand ≡ world.idle → IfOk r (λ begin. TookBeginSafe law seat begin b e) → IfErr r (λ why. TookNoBegin law seat why b e)
      → IfOk r (λ begin. seats.DidBeginSafe b.view seat begin e.view) → IfErr r (λ why. calls.MayNotBegin b.view seat why e.view) → ToldSafe r
  told_safe (Ok begin) stand took none did refused =
      let done = begins_safe begin stand took did in
      record { more = done.more; seen_now = done.seen_now; below = done.below; ok = done.did; err = tt; later = done.later }
  told_safe (Err why) stand took none did refused =
      let done = beginning.told law seat tail flushed b e may idle start held rises seen (Err why) stand tt none tt refused in
      record { more = done.more; seen_now = done.seen_now; below = tt; ok = tt; err = done.err; later = done.later }
