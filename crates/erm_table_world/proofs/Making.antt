-- A new object: the counter is loaded and raised, or found at its end.
use Rattle.std.proofs.Common.{◌≡◌, inl, inr, ℕ, ◌<◌, ◌≤◌, Bool, true, false, ltb, [], ◌∷◌, Some, Result, Ok, Err, IfOk, IfErr, refl, sym, ap, ◌∙◌, subst, arith}
use Rattle.std.specs.Prelude.{if◌then◌else◌}
use Rattle.std.proofs.lemmas.Bool.{ltb-true}
use Rattle.erm_model.specs.declared.outcome.Phase.TheVariants as phase
use Rattle.erm_model.specs.declared.row_stop.RowStop.{RowStop}
use Rattle.erm_model.specs.declared.row_stop.RowStop.TheVariants as stop
use Rattle.erm_model.specs.RowTransaction.{Law}
use Rattle.erm_machine.specs.declared.event.Counter.TheVariants.{Objects}
use Rattle.erm_machine.specs.declared.event.Kind.TheVariants as kind
use Rattle.erm_machine.specs.declared.limits.TheConstants.{OBJECT_LIMIT}
use Rattle.erm_machine.specs.declared.part.Part.{Part}
use Rattle.erm_machine.specs.declared.task.Task.{Task}
use Rattle.erm_machine.specs.declared.task.Task.TheVariants as task
use Rattle.erm_machine.specs.Core.{Core}
use Rattle.erm_machine.specs.Reading.{add_counter, load_counter}
use Rattle.erm_machine.specs.Seat.{is_active}
use Rattle.erm_machine.specs.Sound.{Sound}
use Rattle.erm_machine.specs.Step.{after_event}
use Rattle.erm_machine.proofs.Guards.{when_then}
use Rattle.erm_machine.proofs.QuietKinds.{moves}
use Rattle.erm_core_view.specs.Views.{IsQuiet, session_of, view_of, work_of}
use Rattle.erm_core_view.proofs.Moved.{own_after}
use Rattle.erm_core_steps.proofs.Numbers.{counter_looked, number_made}
use Rattle.erm_core_steps.proofs.Quiet.{IsActive, active_seat}
use Rattle.erm_rule.specs.declared.view.Book.{Book}
use Rattle.erm_rule.specs.Went.{Took, core_of}
use Rattle.erm_session.specs.Took.{TookNoObject, TookObject}
use Rattle.erm_world.specs.Calls.{AreAllMade, DidMake, DidNotMake}
use Rattle.erm_world.specs.Works.{making}
use Rattle.erm_world.specs.World.{IsSession, Session, made_by_all, phase_at}
use Rattle.erm_world.specs.World as world
use Rattle.erm_table_world.specs.Stands.{StandsAt}
use Rattle.erm_table_world.proofs.Beginning.{took_alone}
use Rattle.erm_table_world.proofs.Wholly.{Ran, runs, took_ran}

-- what a new object shows
abbrev pub Makes : Type 0
Makes = (seat : ℕ) (c d : Core) → Sound c → is_active (c.seats seat).place ≡ true → c.shared.objects_drawn < OBJECT_LIMIT → after_event c seat (kind.AddCounter Objects) ≡ Some d
    → session_of (d.seats seat) ≡ record { over = (session_of (c.seats seat)).over; stand = world.active (making c.shared.objects_drawn (work_of (c.seats seat).current)) }

-- each object drawn was made
abbrev pub AreMade : Type 0
AreMade = (sessions oid : ℕ) (c : Core) → Sound c → IsQuiet sessions c → c.shared.first ≤ oid → oid < c.shared.objects_drawn → oid < OBJECT_LIMIT → 0 < made_by_all (view_of sessions c) oid

-- the counter is raised where it was found below its end
numbers_needed : (cells seat found : ℕ) (x y : Part) (t : Task) → add_counter cells seat Objects found x t ≡ Some y → t ≡ task.Numbers
numbers_needed cells seat found x y task.Numbers e = refl
numbers_needed cells seat found x y _ e = absurd (cc)

loaded : (cells found : ℕ) (x y : Part) → load_counter cells Objects found x x.task ≡ Some y → y.task ≡ (if ltb found OBJECT_LIMIT then task.Numbers else task.Rest)
loaded cells found x y e = when_then (λ (z : Part). z.task ≡ (if ltb found OBJECT_LIMIT then task.Numbers else task.Rest)) _ _ y e (λ _. refl)

low_if : (b : Bool) → (if b then task.Numbers else task.Rest) ≡ task.Numbers → b ≡ true
low_if true e = refl
low_if false e = absurd (cc)

below_limit : (seat : ℕ) (b c d : Core) → after_event b seat (kind.LoadCounter Objects) ≡ Some c → after_event c seat (kind.AddCounter Objects) ≡ Some d → b.shared.objects_drawn < OBJECT_LIMIT
below_limit seat b c d first second =
    let m = moves b seat (kind.LoadCounter Objects) c tt first in
    let n = moves c seat (kind.AddCounter Objects) d tt second in
    let at : (c.seats seat).task ≡ (if ltb b.shared.objects_drawn OBJECT_LIMIT then task.Numbers else task.Rest) =
    ap (λ (y : Part). y.task) (own_after b seat (kind.LoadCounter Objects) c m) ∙ loaded b.shared.cell_limit b.shared.objects_drawn (b.seats seat) m.part m.after
    in
    let needs = numbers_needed c.shared.cell_limit seat c.shared.objects_drawn (c.seats seat) n.part (c.seats seat).task n.after in
    ltb-true b.shared.objects_drawn OBJECT_LIMIT (low_if (ltb b.shared.objects_drawn OBJECT_LIMIT) (sym at ∙ needs))

module _ (makes : Makes) (are_made : AreMade) (law : Law) (sessions seat : ℕ) (b e : Book) (at : StandsAt law sessions b) (session : IsSession (view_of sessions (core_of b)) seat) (active : phase_at (view_of sessions (core_of b)) seat ≡ phase.Active) where
  is_active_seat : IsActive seat (core_of b)
  is_active_seat = active_seat sessions seat (core_of b) at.quiet session active

  pub record Made (r : Result ℕ RowStop) : Type 0 where
    pub ran : Ran law sessions seat b e
    pub quiet : IsQuiet sessions (core_of e)
    pub ok : IfOk r (λ oid. DidMake (view_of sessions (core_of b)) seat oid (view_of sessions (core_of e)))
    pub err : IfErr r (λ why. DidNotMake (view_of sessions (core_of b)) seat why (view_of sessions (core_of e)))

  makes_one : (oid : ℕ) → TookObject law seat oid b e → Made (Ok oid) × (oid < OBJECT_LIMIT)
  makes_one oid took =
      let seen = took.0 in
      let steps = took.1 in
      let first = took_alone law seat (kind.LoadCounter Objects, seen) b steps.0 steps.1 in
      let one = runs law b seat (kind.LoadCounter Objects) seen steps.0 first at.state in
      let two = runs law steps.0 seat (kind.AddCounter Objects) oid e steps.2 one.state in
      let looked = counter_looked sessions seat (core_of b) (core_of steps.0) at.state.sound.sound at.quiet session is_active_seat one.event in
      let less = below_limit seat (core_of b) (core_of steps.0) (core_of e) one.event two.event in
      let now = looked.drawn in
      let shows = makes seat (core_of steps.0) (core_of e) one.state.sound.sound looked.active.active (omega (arith, less, now)) two.event in
      let made = number_made sessions seat (core_of b) (core_of steps.0) (core_of e) one.state.sound.sound session looked less two.event shows in
      let found : (core_of b).shared.objects_drawn ≡ oid = sym now ∙ two.met in (
        record {
          ran = took_ran law sessions seat ((kind.AddCounter Objects, oid) ∷ (kind.LoadCounter Objects, seen) ∷ []) b e steps at.state;
          quiet = made.0;
          ok = subst (λ (n : ℕ). DidMake (view_of sessions (core_of b)) seat n (view_of sessions (core_of e))) found made.1;
          err = tt;
        },
        omega (arith, less, found),
      )

  makes_none : (drawn : ℕ) → OBJECT_LIMIT ≤ drawn → Took law seat ((kind.LoadCounter Objects, drawn) ∷ []) b e → Made (Err (stop.OidsFull drawn))
  makes_none drawn many took =
      let first = took_alone law seat (kind.LoadCounter Objects, drawn) b e took in
      let one = runs law b seat (kind.LoadCounter Objects) drawn e first at.state in
      let looked = counter_looked sessions seat (core_of b) (core_of e) at.state.sound.sound at.quiet session is_active_seat one.event in
      let found : (core_of b).shared.objects_drawn ≡ drawn = one.met in
      let made : AreAllMade (view_of sessions (core_of b)) =
      λ x from known. are_made sessions x (core_of b) at.state.sound.sound at.quiet from (omega (arith, known, many, found)) (omega (arith, known))
      in
      record {
        ran = took_ran law sessions seat ((kind.LoadCounter Objects, drawn) ∷ []) b e took at.state;
        quiet = looked.quiet;
        ok = tt;
        err = (looked.unseen.view, (omega (arith, many), omega (arith, found, at.state.sound.sound.common.counters.objects)), made);
      }

  made_none : (why : RowStop) → ((drawn : ℕ) → why ≡ stop.OidsFull drawn → OBJECT_LIMIT ≤ drawn) → TookNoObject law seat why b e → Made (Err why)
  made_none (stop.OidsFull drawn) many (inl took) = makes_none drawn (many drawn refl) took
  made_none (stop.OidsFull drawn) many (inr took) = absurd (let less = (makes_one drawn took).1 in let more = many drawn refl in omega (arith, less, more))
  made_none _ many took = absurd took

  pub made : (r : Result ℕ RowStop) → IfOk r (λ oid. TookObject law seat oid b e) → IfErr r (λ why. TookNoObject law seat why b e)
      → IfErr r (λ why. (drawn : ℕ) → why ≡ stop.OidsFull drawn → OBJECT_LIMIT ≤ drawn) → Made r
  made (Ok oid) took none many = (makes_one oid took).0
  made (Err why) took none many = made_none why many none
