-- The begin of a snapshot: a transaction that has just begun raises its begin word to its begin stamp.
use Rattle.std.proofs.Common.{◌≡◌, ℕ, ◌+◌, ◌<◌, Bool, true, false, ◌&&◌, eqb, List, length, map, Option, Some, refl, sym, ap, ◌∙◌, subst, arith}
use Rattle.std.proofs.lemmas.Bool.{and_from, cond-false, eq-eqb, lt-ltb, ne_eqb, or_right}
use Rattle.erm_machine.specs.declared.event.Kind.{Kind}
use Rattle.erm_machine.specs.declared.event.Kind.TheVariants as kind
use Rattle.erm_machine.specs.declared.event.TailUse.TheVariants as purpose
use Rattle.erm_machine.specs.declared.limits.TheConstants.{LAST_NUMBER}
use Rattle.erm_machine.specs.declared.part.Part.{Part}
use Rattle.erm_machine.specs.declared.place.Place.TheVariants.{Active, Announced, Idle}
use Rattle.erm_machine.specs.declared.task.Task.TheVariants as task
use Rattle.erm_machine.specs.Core.{Core}
use Rattle.erm_machine.specs.Life.{aborted, has_ended, load_tail_to_begin, store_begin}
use Rattle.erm_machine.specs.Seat.{end_of, is_active, is_new, is_rest, may_start, when}
use Rattle.erm_machine.specs.Sound.{Sound}
use Rattle.erm_machine.specs.Step.{after_event}
use Rattle.erm_machine.specs.Words.{is_flusher, is_session}
use Rattle.erm_world.specs.Calls.{DidBegin}
use Rattle.erm_world.specs.Safe.{DidBeginSafe}
use Rattle.erm_world.specs.World.{Finished, IsSession, Opening, Session, View, Work, size_of}
use Rattle.erm_world.specs.World as world
use Rattle.erm_core_calls.proofs.Moving.{met, stepped, taken}
use Rattle.erm_core_turns.proofs.Turns.{part_stepped}
use Rattle.erm_core_view.specs.Views.{IsBetween, IsQuiet, finished_of, session_of, view_of, work_of}
use Rattle.erm_core_view.proofs.Moved.{changes_one}
use Rattle.erm_core_view.proofs.Shown.{work_active}
use Rattle.erm_core_view.proofs.Snapshots.{starts_new}
use Rattle.erm_core_steps.specs.Steps.{IsTaken}
use Rattle.erm_core_steps.proofs.Aborts.{no_flusher}
use Rattle.erm_core_steps.proofs.Beginnings.{second_loaded}
use Rattle.erm_core_steps.proofs.Places.{active_at}
use Rattle.erm_core_steps.proofs.Quiet.{quiet_after}
use Rattle.erm_core_steps.proofs.Unseen.{others_stay}
use Rattle.erm_lists.specs.Snapshots.{HasJustBegun}

-- the second load of the tail leaves a transaction that has done nothing
pub just_begun : (seat tail : ℕ) (c d : Core) → is_session seat ≡ true → (c.seats seat).place ≡ Announced tail → (c.seats seat).number < LAST_NUMBER → 0 < c.shared.tail
    → after_event c seat (kind.LoadTail purpose.Begin) ≡ Some d → HasJustBegun seat c.shared.tail d
just_begun seat tail c d session at less some e =
    let k : Kind = kind.LoadTail purpose.Begin in
    let x = c.seats seat in
    let y : Part = second_loaded seat tail c.shared.tail x in
    let is : d.seats seat ≡ y =
    part_stepped c d seat k y
    (taken c seat k y tt refl (met _ _ _ (ap (load_tail_to_begin seat c.shared.tail x) at) (or_right (is_flusher seat) _ (lt-ltb x.number LAST_NUMBER less)))) e
    in
    record {
      session = session;
      active = ap (λ (z : Part). is_active z.place) is;
      rests = ap (λ (z : Part). z.task) is;
      fresh = ap (λ (z : Part). is_new z.current) is;
      begin_is = ap (λ (z : Part). z.current.begin) is;
      positive = some;
    }

-- the part whose begin word is raised
abbrev raised : ℕ → Part → Part
raised begin x = record x { place = Active begin; task = task.Surveys 1 }

raise_steps : (seat begin : ℕ) (c : Core) → HasJustBegun seat begin c
    → after_event c seat (kind.StoreBegin begin) ≡ Some (stepped c seat (kind.StoreBegin begin) (raised begin (c.seats seat)))
raise_steps seat begin c at =
    let x = c.seats seat in
    let pl = active_at x.place at.active in
    let positive = at.positive in
    let begin_is = at.begin_is in
    let ends : Option Part = when (has_ended x.current (end_of x.task)) (aborted seat (record x { place = Idle; task = task.Rest })) in
    let guard : Bool = is_session seat && eqb begin x.current.begin && is_new x.current && is_rest x.task in
    let raises : Option Part = when guard (raised begin x) in
    taken c seat (kind.StoreBegin begin) (raised begin x) tt refl
    (met _ guard (raised begin x)
    (ap (store_begin seat begin x) pl.1 ∙ cond-false (eqb begin 0) ends raises (ne_eqb begin 0 (λ zero. absurd (omega (arith, zero, positive)))))
    (and_from _ _ (and_from _ _ (and_from _ _ at.session (eq-eqb begin x.current.begin (sym begin_is))) at.fresh) (ap is_rest at.rests)))

pub raise_taken : (seat begin : ℕ) (c : Core) → HasJustBegun seat begin c → IsTaken c seat (kind.StoreBegin begin)
raise_taken seat begin c at = (_, raise_steps seat begin c at)

-- what shows of a pending snapshot
abbrev pending : List Finished → (number begin : ℕ) → Session
pending over number begin = record { over = over; stand = world.snapshot (record { number = number; begin = begin; is_safe = false }) }

raise_shows : (seat begin : ℕ) (over : List Finished) (c d : Core) → HasJustBegun seat begin c
    → session_of (c.seats seat) ≡ record { over = over; stand = world.active (world.begun (length over + 1) begin) }
    → after_event c seat (kind.StoreBegin begin) ≡ Some d → session_of (d.seats seat) ≡ pending over (length over + 1) begin
raise_shows seat begin over c d at shown e =
    let x = c.seats seat in
    let is : d.seats seat ≡ raised begin x = part_stepped c d seat (kind.StoreBegin begin) (raised begin x) (raise_steps seat begin c at) e in
    let work = work_active x.place x.task x.current at.active (starts_new x.task x.current (ap may_start at.rests)) in
    let all : map finished_of x.over ≡ over = ap (λ (s : Session). s.over) shown in
    let number : x.current.number ≡ length over + 1 =
    sym (ap (λ (w : Work). w.number) work) ∙ ap (λ (s : Session). (world.work_of s.stand).number) shown
    in
    ap session_of is ∙ ap (λ (fs : List Finished). pending fs x.current.number x.current.begin) all
    ∙ ap (λ (n : ℕ). pending over n x.current.begin) number ∙ ap (λ (n : ℕ). pending over (length over + 1) n) at.begin_is

pub raise_done : (sessions seat begin : ℕ) (v : View) (c d : Core) → Sound c → IsQuiet sessions c → IsSession (view_of sessions c) seat → HasJustBegun seat begin c
    → DidBegin v seat begin (view_of sessions c) → after_event c seat (kind.StoreBegin begin) ≡ Some d
    → IsQuiet sessions d × DidBeginSafe v seat begin (view_of sessions d)
raise_done sessions seat begin v c d sound quiet session at did e =
    let k : Kind = kind.StoreBegin begin in
    let x = c.seats seat in
    let works = did.3 in
    let is : d.seats seat ≡ raised begin x = part_stepped c d seat k (raised begin x) (raise_steps seat begin c at) e in
    let change = changes_one sessions seat c d k sound tt e in
    let others = others_stay c d seat k tt e in
    let opening : d.shared.opening ≡ c.shared.opening = ap (λ (o : Opening). o.tail) change.opening in
    let flushed : d.shared.flushed ≡ c.shared.flushed = change.flushed in
    let tail : d.shared.tail ≡ c.shared.tail + 0 = change.tail in
    let tail_before : c.shared.tail ≡ v.tail = works.tail in
    let low = quiet.flushed.0 in
    let high = quiet.flushed.1 in (
      quiet_after sessions seat c d quiet session others opening
          (subst (λ (y : Part). IsBetween y.place y.task) (sym is) refl)
          (subst (λ (y : Part). 0 < y.current.stamp → y.current.size ≡ size_of (work_of y.current)) (sym is) (quiet.sized seat session.0 session.1))
          (omega (arith, opening, flushed, low), omega (arith, tail, flushed, high)),
      (
        did.0,
        did.1,
        did.2,
        record {
          own = raise_shows seat begin (v.session seat).over c d at works.own e;
          others = λ q other. change.others q other ∙ works.others q other;
          opening = change.opening ∙ works.opening;
          tail = omega (arith, tail, tail_before);
          flushed = change.flushed ∙ works.flushed;
          pinned = change.pinned (no_flusher seat at.session) ∙ works.pinned;
          given_up = works.given_up;
          saves = record { own = tt; others = works.saves.others };
        },
      ),
    )
