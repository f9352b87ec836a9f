-- A begin: its three steps in the one state, or the one that finds the log at its end.
use Rattle.std.proofs.Common.{◌≡◌, ℕ, ◌<◌, ◌≤◌, true, false, not, leb, ltb, [], ◌∷◌, length, Some, Result, Ok, Err, IfOk, IfErr, refl, sym, ap, ◌∙◌, subst, arith, ⊎_elim}
use Rattle.std.proofs.lemmas.Bool.{and_parts, or_cases, leb-true, ltb-true, le-leb, and_from, cases_lt}
use Rattle.erm_model.specs.declared.outcome.Phase.TheVariants as phase
use Rattle.erm_model.specs.RowTransaction.{Law}
use Rattle.erm_machine.specs.declared.event.Kind.{Kind}
use Rattle.erm_machine.specs.declared.event.Kind.TheVariants as kind
use Rattle.erm_machine.specs.declared.event.TailUse.TheVariants as purpose
use Rattle.erm_machine.specs.declared.limits.TheConstants.{LAST_NUMBER, STOP}
use Rattle.erm_machine.specs.declared.part.Part.{Part}
use Rattle.erm_machine.specs.declared.place.Place.TheVariants.{Idle}
use Rattle.erm_machine.specs.Core.{Core}
use Rattle.erm_machine.specs.Life.{load_tail_to_begin}
use Rattle.erm_machine.specs.Seat.{has_number}
use Rattle.erm_machine.specs.Step.{after_event}
use Rattle.erm_machine.specs.Words.{is_flusher, refuses}
use Rattle.erm_machine.proofs.Guards.{when_then}
use Rattle.erm_machine.proofs.QuietKinds.{moves}
use Rattle.erm_core_view.specs.Views.{IsQuiet, session_of, view_of}
use Rattle.erm_core_steps.proofs.Aborts.{session_plain}
use Rattle.erm_core_steps.proofs.Beginnings.{IsIdle, begin_done, idle_seat, log_ends, numbers_over}
use Rattle.erm_rule.specs.declared.view.Book.{Book}
use Rattle.erm_rule.specs.declared.view.View.{View}
use Rattle.erm_rule.specs.Steps.{Booked}
use Rattle.erm_rule.specs.Views.{part_of}
use Rattle.erm_rule.specs.Went.{Took, core_of}
use Rattle.erm_seats.specs.Took.{TookBegin}
use Rattle.erm_session.specs.Calls as calls
use Rattle.erm_session.specs.Took.{TookNoBegin}
use Rattle.erm_world.specs.declared.stops.BeginStop.{BeginStop}
use Rattle.erm_world.specs.declared.stops.BeginStop.TheVariants as stop
use Rattle.erm_world.specs.Calls.{DidBegin, MayNotBegin}
use Rattle.erm_world.specs.World.{IsSession, phase_at}
use Rattle.erm_table_world.specs.Stands.{StandsAt}
use Rattle.erm_table_world.proofs.Wholly.{Ran, ran_none, runs, took_ran}

-- one step alone
pub took_alone : (law : Law) (who : ℕ) (s : Kind × ℕ) (b e : Book) → Took law who (s ∷ []) b e → Booked law b who s.0 s.1 e
took_alone law who s b e took = subst (λ (z : Book). Booked law z who s.0 s.1 e) took.1 took.2

-- a session that has loaded the tail to begin has a number left
number_met : (seat found : ℕ) (x y : Part) → x.place ≡ Idle → load_tail_to_begin seat found x x.place ≡ Some y → has_number seat x ≡ true
number_met seat found x y idle e =
    when_then (λ _. has_number seat x ≡ true) (has_number seat x) _ y (sym (ap (load_tail_to_begin seat found x) idle) ∙ e) (λ t. t)

number_left : (seat : ℕ) (c d : Core) → IsIdle seat c → after_event c seat (kind.LoadTail purpose.Begin) ≡ Some d → (c.seats seat).number < LAST_NUMBER
number_left seat c d at e =
    let m = moves c seat (kind.LoadTail purpose.Begin) d tt e in
    let has = number_met seat c.shared.tail (c.seats seat) m.part at.idle m.after in
    ⊎_elim
    (λ (flusher : is_flusher seat ≡ true). absurd (let plain = session_plain seat at.session in cc))
    (λ (less : ltb (c.seats seat).number LAST_NUMBER ≡ true). ltb-true (c.seats seat).number LAST_NUMBER less)
    (or_cases (is_flusher seat) (ltb (c.seats seat).number LAST_NUMBER) has)

-- a tail that isn't refused lies below the stop, one that is doesn't
low_tail : (seat tail : ℕ) → is_flusher seat ≡ false → refuses seat tail ≡ false → tail < STOP
low_tail seat tail plain low =
    ⊎_elim (λ (less : tail < STOP). less)
    (λ (high : STOP ≤ tail). absurd (let is : refuses seat tail ≡ true = and_from _ _ (ap not plain) (le-leb STOP tail high) in cc))
    (cases_lt tail STOP)

high_tail : (seat tail : ℕ) → refuses seat tail ≡ true → STOP ≤ tail
high_tail seat tail high = leb-true STOP tail (and_parts (not (is_flusher seat)) (leb STOP tail) high).1

module _ (law : Law) (sessions seat : ℕ) (b e : Book) (at : StandsAt law sessions b) (session : IsSession (view_of sessions (core_of b)) seat) (idle : phase_at (view_of sessions (core_of b)) seat ≡ phase.Idle) where
  is_idle : IsIdle seat (core_of b)
  is_idle = idle_seat sessions seat (core_of b) at.quiet session idle

  pub begins : (begin : ℕ) → TookBegin law seat begin b e → IsQuiet sessions (core_of e) × DidBegin (view_of sessions (core_of b)) seat begin (view_of sessions (core_of e))
  begins begin took =
      let steps = took.took in
      let first = took_alone law seat (kind.LoadTail purpose.Begin, took.announced) b steps.1.0 steps.1.1 in
      let one = runs law b seat (kind.LoadTail purpose.Begin) took.announced steps.1.0 first at.state in
      let two = runs law steps.1.0 seat (kind.StoreBegin took.announced) took.word steps.0 steps.1.2 one.state in
      let three = runs law steps.0 seat (kind.LoadTail purpose.Begin) begin e steps.2 two.state in
      let less = number_left seat (core_of b) (core_of steps.1.0) is_idle one.event in
      let found : (core_of b).shared.tail ≡ took.announced = one.met in
      let low = low_tail seat took.announced (session_plain seat is_idle.session) took.low in
      let done =
      begin_done sessions seat (core_of b) (core_of steps.1.0) (core_of steps.0) (core_of e) at.state.sound.sound one.state.sound.sound two.state.sound.sound at.quiet session is_idle less
      (omega (arith, found, low)) one.event (subst (λ (n : ℕ). after_event (core_of steps.1.0) seat (kind.StoreBegin n) ≡ Some (core_of steps.0)) (sym found) two.event) three.event
      in
      (done.0, subst (λ (n : ℕ). DidBegin (view_of sessions (core_of b)) seat n (view_of sessions (core_of e))) three.met done.1)

  pub begins_not : (tail : ℕ) → refuses seat tail ≡ true → Took law seat ((kind.LoadTail purpose.Begin, tail) ∷ []) b e
      → IsQuiet sessions (core_of e) × MayNotBegin (view_of sessions (core_of b)) seat (stop.LogEnd tail) (view_of sessions (core_of e))
  begins_not tail refused took =
      let first = took_alone law seat (kind.LoadTail purpose.Begin, tail) b e took in
      let one = runs law b seat (kind.LoadTail purpose.Begin) tail e first at.state in
      let less = number_left seat (core_of b) (core_of e) is_idle one.event in
      let found : (core_of b).shared.tail ≡ tail = one.met in
      let high = high_tail seat tail refused in
      let done = log_ends sessions seat (core_of b) (core_of e) at.state.sound.sound at.quiet session is_idle less (omega (arith, found, high)) one.event in
      let all = numbers_over seat (core_of b) at.state.sound.sound is_idle in
      (done.0, (done.1, omega (arith, all, less), sym found, high))

  pub numbers_end : ((core_of b).seats seat).number ≡ LAST_NUMBER → length (session_of ((core_of b).seats seat)).over ≡ LAST_NUMBER
  numbers_end last = sym (numbers_over seat (core_of b) at.state.sound.sound is_idle) ∙ last

  -- what became of a begin
  pub record Began (r : Result ℕ BeginStop) : Type 0 where
    pub ran : Ran law sessions seat b e
    pub quiet : IsQuiet sessions (core_of e)
    pub ok : IfOk r (λ begin. DidBegin (view_of sessions (core_of b)) seat begin (view_of sessions (core_of e)))
    pub err : IfErr r (λ why. MayNotBegin (view_of sessions (core_of b)) seat why (view_of sessions (core_of e)))

  not_begun : (why : BeginStop) → TookNoBegin law seat why b e → (why ≡ stop.NumbersEnd → ((core_of b).seats seat).number ≡ LAST_NUMBER) → Began (Err why)
  not_begun stop.NumbersEnd same last = record {
    ran = subst (λ (z : Book). Ran law sessions seat b z) (sym same) (ran_none law sessions seat b at.state);
    quiet = subst (λ (z : Book). IsQuiet sessions (core_of z)) (sym same) at.quiet;
    ok = tt;
    err = (ap (λ (z : Book). view_of sessions (core_of z)) same, numbers_end (last refl));
  }
  not_begun (stop.LogEnd tail) took last =
      let done = begins_not tail took.0 took.1 in
      record { ran = took_ran law sessions seat ((kind.LoadTail purpose.Begin, tail) ∷ []) b e took.1 at.state; quiet = done.0; ok = tt; err = done.1 }
  not_begun stop.Memory took last = absurd took

  pub began : (r : Result ℕ BeginStop) → IfOk r (λ begin. TookBegin law seat begin b e) → IfErr r (λ why. TookNoBegin law seat why b e)
      → IfErr r (λ why. why ≡ stop.NumbersEnd → ((core_of b).seats seat).number ≡ LAST_NUMBER) → Began r
  began (Ok begin) took none last =
      let done = begins begin took in
      record { ran = took_ran law sessions seat ((kind.LoadTail purpose.Begin, begin) ∷ (kind.StoreBegin took.announced, took.word) ∷ (kind.LoadTail purpose.Begin, took.announced) ∷ []) b e took.took at.state; quiet = done.0; ok = done.1; err = tt }
  began (Err why) took none last = not_begun why none last

-- a session that has no number left has had its last one
pub at_last : (v w : View) (who : ℕ) (x : Part) (r : Result ℕ BeginStop) → part_of v who ≡ x → IfErr r (λ why. calls.MayNotBegin v who why w) → IfErr r (λ why. why ≡ stop.NumbersEnd → x.number ≡ LAST_NUMBER)
at_last v w who x (Ok begin) is refused = tt
at_last v w who x (Err stop.NumbersEnd) is refused = λ _. sym (ap (λ (y : Part). y.number) is) ∙ refused.1
at_last v w who x (Err (stop.LogEnd tail)) is refused = λ same. absurd (cc)
at_last v w who x (Err stop.Memory) is refused = λ same. absurd (cc)
