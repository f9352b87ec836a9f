-- Snapshots: what they show, from their begin to their end.
use Rattle.std.proofs.Common.{◌≡◌, ℕ, ◌+◌, ◌<◌, Bool, true, false, List, [], ◌∷◌, length, map, Result, Ok, Err, IfOk, IfErr, sym, ap, ◌∙◌, subst, arith}
use Rattle.std.proofs.lemmas.Bool.{cond-true}
use Rattle.erm_model.specs.declared.outcome.Phase.TheVariants as phase
use Rattle.erm_model.specs.RowTransaction.{Law}
use Rattle.erm_machine.specs.declared.attempt.Attempt.{Attempt}
use Rattle.erm_machine.specs.declared.event.Kind.TheVariants as kind
use Rattle.erm_machine.specs.declared.event.TailUse.TheVariants as purpose
use Rattle.erm_machine.specs.declared.limits.TheConstants.{LAST_NUMBER}
use Rattle.erm_machine.specs.declared.part.Part.{Part}
use Rattle.erm_machine.specs.declared.place.Place.{Place}
use Rattle.erm_machine.specs.declared.place.Place.TheVariants.{Active}
use Rattle.erm_machine.specs.declared.task.Task.{Task}
use Rattle.erm_machine.specs.declared.task.Task.TheVariants as task
use Rattle.erm_machine.specs.Begins.{BeginsAt}
use Rattle.erm_machine.specs.Seat.{is_active, is_safe, is_snapshot, with_task}
use Rattle.erm_machine.specs.Words.{is_seat, is_session}
use Rattle.erm_core_view.specs.Steps.{snapshot_session}
use Rattle.erm_core_view.specs.Views.{IsQuiet, finished_of, session_of, stand_of, view_of, work_of}
use Rattle.erm_core_view.proofs.Looks.{raise_shows}
use Rattle.erm_core_view.proofs.Shown.{work_active}
use Rattle.erm_core_view.proofs.Snapshots.{snapshots_new}
use Rattle.erm_core_steps.proofs.Aborts.{no_flusher}
use Rattle.erm_core_steps.proofs.Quiet.{active_seat}
use Rattle.erm_rule.specs.declared.view.Book.{Book}
use Rattle.erm_rule.specs.Views.{part_of, with_part}
use Rattle.erm_rule.specs.Went.{IsStillStep, Went, core_of}
use Rattle.erm_rule.proofs.Wents.{went_none, went_step}
use Rattle.erm_seats.specs.Safe.{TookBeginSafe}
use Rattle.erm_session.specs.Took.{TookNoBegin}
use Rattle.erm_world.specs.declared.stops.BeginStop.{BeginStop}
use Rattle.erm_world.specs.declared.stops.BeginStop.TheVariants as stop
use Rattle.erm_world.specs.Calls.{DidBegin, MayNotBegin}
use Rattle.erm_world.specs.Safe.{DidBeginSafe, with_snapshot}
use Rattle.erm_world.specs.World.{Finished, IsSession, Session, Stand, View, Work, phase_at, phase_of}
use Rattle.erm_world.specs.World as world
use Rattle.erm_table_world.specs.Stands.{IsStateful, StandsAt}
use Rattle.erm_table_world.proofs.Beginning.{began, begins}
use Rattle.erm_table_world.proofs.Still.{Stayed, becomes, went_ran, went_stayed}
use Rattle.erm_table_world.proofs.Wholly.{Ran, part_is, part_set, runs, took_ran}

-- an active seat shows the snapshot that its task is of
pub shown : (pl : Place) (u : Task) (t : Attempt) → is_active pl ≡ true → is_snapshot u ≡ true
    → stand_of pl u t ≡ world.snapshot (record { number = t.number; begin = t.begin; is_safe = is_safe u })
shown (Active tail) u t active is = cond-true (is_snapshot u) (world.snapshot (record { number = t.number; begin = t.begin; is_safe = is_safe u })) _ is
shown _ u t active is = absurd (cc)

pub tasked_shows : (x : Part) (u : Task) → is_active x.place ≡ true → is_snapshot u ≡ true → session_of (with_task u x) ≡ snapshot_session x u
tasked_shows x u active is =
    ap (λ (at : Stand). let s : Session = record { over = map finished_of x.over; stand = at } in s) (shown x.place u x.current active is)

-- the same, whatever the task, where it is as safe as before
pub same_shows : (x : Part) (u : Task) → is_active x.place ≡ true → is_snapshot x.task ≡ true → is_snapshot u ≡ true → is_safe u ≡ is_safe x.task → session_of (with_task u x) ≡ session_of x
same_shows x u active was is as_safe =
    tasked_shows x u active is
    ∙ ap (λ (b : Bool). let s : Session = record { over = map finished_of x.over; stand = world.snapshot (record { number = x.current.number; begin = x.current.begin; is_safe = b }) } in s) as_safe
    ∙ sym (tasked_shows x x.task active was)

-- the part of a seat whose task alone is another
pub tasked : (law : Law) (sessions seat : ℕ) (b e : Book) (u : Task) → IsStateful law b → Ran law sessions seat b e → is_seat seat ≡ true
    → e.view ≡ with_part seat (with_task u (part_of b.view seat)) b.view → (core_of e).seats seat ≡ with_task u ((core_of b).seats seat)
tasked law sessions seat b e u state ran seated did =
    part_set law b e seat (with_task u (part_of b.view seat)) state ran.state seated did ∙ ap (λ (x : Part). with_task u x) (part_is law b seat state seated)

-- BEGIN. The steps of a begin, and one store more.
pub begin_still : (law : Law) (seat begin : ℕ) (b e : Book) → TookBeginSafe law seat begin b e → Went law seat IsStillStep b e
begin_still law seat begin b e took =
    went_step law seat IsStillStep b took.begun e (kind.StoreBegin begin) took.word
    (record {
      steps = (kind.LoadTail purpose.Begin, begin) ∷ (kind.StoreBegin took.begins.announced, took.begins.word) ∷ (kind.LoadTail purpose.Begin, took.begins.announced) ∷ [];
      took = took.begins.took;
      all = (tt, (tt, (tt, tt)));
    }) tt took.raises

pub some_begin : (pl : Place) (begin now : ℕ) → is_active pl ≡ true → BeginsAt pl begin now → 0 < begin
some_begin (Active tail) begin now active is = let some = is.positive in let most = is.announced in omega (arith, some, most)
some_begin _ begin now active is = absurd (cc)

module _ (law : Law) (sessions seat : ℕ) (b e : Book) (at : StandsAt law sessions b) (session : IsSession (view_of sessions (core_of b)) seat) (idle : phase_at (view_of sessions (core_of b)) seat ≡ phase.Idle)
    (one : is_session seat ≡ true) (begin : ℕ) (took : TookBeginSafe law seat begin b e) where
  abbrev v : View
  v = view_of sessions (core_of b)

  abbrev m : Book
  m = took.begun

  abbrev y : Part
  y = (core_of m).seats seat

  began_first : IsQuiet sessions (core_of m) × DidBegin v seat begin (view_of sessions (core_of m))
  began_first = begins law sessions seat b m at session idle begin took.begins

  own_first : session_of y ≡ record { over = (v.session seat).over; stand = world.active (world.begun (length (v.session seat).over + 1) begin) }
  own_first = began_first.1.3.own

  state_first : IsStateful law m
  state_first = (took_ran law sessions seat ((kind.LoadTail purpose.Begin, begin) ∷ (kind.StoreBegin took.begins.announced, took.begins.word) ∷ (kind.LoadTail purpose.Begin, took.begins.announced) ∷ []) b m took.begins.took at.state).state

  active_first : is_active y.place ≡ true
  active_first = (active_seat sessions seat (core_of m) began_first.0 session (ap (λ (s : Session). phase_of s.stand) own_first)).active

  work_first : work_of y.current ≡ world.begun (length (v.session seat).over + 1) begin
  work_first =
      sym (work_active y.place y.task y.current active_first (snapshots_new (core_of m) seat state_first.sound.sound)) ∙ ap (λ (s : Session). world.work_of s.stand) own_first

  begin_first : 0 < y.current.begin
  begin_first = some_begin y.place y.current.begin (core_of m).shared.tail active_first (state_first.sound.sound.own seat).begins.begins

  begin_is : y.current.begin ≡ begin
  begin_is = ap (λ (w : Work). w.begin) work_first

  raised : session_of ((core_of e).seats seat) ≡ snapshot_session y (task.Surveys 1)
  raised =
      raise_shows seat begin (core_of m) (core_of e) active_first (subst (λ (n : ℕ). 0 < n) begin_is begin_first)
      (runs law m seat (kind.StoreBegin begin) took.word e took.raises state_first).event

  pending_shown : session_of ((core_of e).seats seat) ≡ with_snapshot v seat (record { number = length (v.session seat).over + 1; begin = begin; is_safe = false })
  pending_shown =
      raised
      ∙ ap (λ (w : Work). let s : Session = record { over = map finished_of y.over; stand = world.snapshot (record { number = w.number; begin = w.begin; is_safe = false }) } in s) work_first
      ∙ ap (λ (fs : List Finished). let s : Session = record { over = fs; stand = world.snapshot (record { number = length (v.session seat).over + 1; begin = begin; is_safe = false }) } in s)
      (ap (λ (s : Session). s.over) own_first)

  pub begins_safe : DidBeginSafe v seat begin (view_of sessions (core_of e))
  begins_safe =
      let went = begin_still law seat begin b e took in (
        began_first.1.0,
        began_first.1.1,
        began_first.1.2,
        becomes law sessions seat b e _ (no_flusher seat one) (went_ran law sessions seat IsStillStep b e went at.state) (went_stayed law sessions seat b e went at.state) pending_shown,
      )

-- a begin that is refused takes the first step, or none
stop_still : (law : Law) (seat : ℕ) (why : BeginStop) (b e : Book) → TookNoBegin law seat why b e → Went law seat IsStillStep b e
stop_still law seat stop.NumbersEnd b e same = subst (λ (z : Book). Went law seat IsStillStep b z) (sym same) (went_none law seat IsStillStep b)
stop_still law seat (stop.LogEnd tail) b e took = record { steps = (kind.LoadTail purpose.Begin, tail) ∷ []; took = took.1; all = (tt, tt) }
stop_still law seat stop.Memory b e took = absurd took

-- what became of it
pub record BeganSafe (law : Law) (sessions seat : ℕ) (b e : Book) (r : Result ℕ BeginStop) : Type 0 where
  pub ran : Ran law sessions seat b e
  pub stayed : Stayed sessions seat (core_of b) (core_of e)
  pub ok : IfOk r (λ begin. DidBeginSafe (view_of sessions (core_of b)) seat begin (view_of sessions (core_of e)))
  pub err : IfErr r (λ why. MayNotBegin (view_of sessions (core_of b)) seat why (view_of sessions (core_of e)))

pub began_safe : (law : Law) (sessions seat : ℕ) (b e : Book) → StandsAt law sessions b → IsSession (view_of sessions (core_of b)) seat → phase_at (view_of sessions (core_of b)) seat ≡ phase.Idle
    → is_session seat ≡ true → (r : Result ℕ BeginStop) → IfOk r (λ begin. TookBeginSafe law seat begin b e) → IfErr r (λ why. TookNoBegin law seat why b e)
    → IfErr r (λ why. why ≡ stop.NumbersEnd → ((core_of b).seats seat).number ≡ LAST_NUMBER) → BeganSafe law sessions seat b e r
began_safe law sessions seat b e at session idle one (Ok begin) took none last = record {
  ran = went_ran law sessions seat IsStillStep b e (begin_still law seat begin b e took) at.state;
  stayed = went_stayed law sessions seat b e (begin_still law seat begin b e took) at.state;
  ok = begins_safe law sessions seat b e at session idle one begin took;
  err = tt;
}
began_safe law sessions seat b e at session idle one (Err why) took none last =
    let done = began law sessions seat b e at session idle (Err why) tt none last in
    record { ran = done.ran; stayed = went_stayed law sessions seat b e (stop_still law seat why b e none) at.state; ok = tt; err = done.err }
