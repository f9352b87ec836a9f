-- A new object: its number is the counter's, which is loaded first.
use Rattle.std.proofs.Common.{◌≡◌, ℕ, ◌<◌, true, ltb, ◌++◌, ◌∷◌, [], Some, refl, sym, ap, ◌∙◌, subst, arith}
use Rattle.std.specs.Prelude.{if◌then◌else◌}
use Rattle.std.proofs.lemmas.Bool.{and_from, cond-true, lt-ltb}
use Rattle.erm_machine.specs.declared.event.Counter.TheVariants.{Objects}
use Rattle.erm_machine.specs.declared.event.Kind.{Kind}
use Rattle.erm_machine.specs.declared.event.Kind.TheVariants as kind
use Rattle.erm_machine.specs.declared.limits.TheConstants.{OBJECT_LIMIT}
use Rattle.erm_machine.specs.declared.part.Part.{Part}
use Rattle.erm_machine.specs.declared.task.Task.{Task}
use Rattle.erm_machine.specs.declared.task.Task.TheVariants as task
use Rattle.erm_machine.specs.Core.{Core}
use Rattle.erm_machine.specs.Reading.{add_counter}
use Rattle.erm_machine.specs.Seat.{is_active, may_start, with_task}
use Rattle.erm_machine.specs.Sound.{Sound}
use Rattle.erm_machine.specs.Step.{after_event}
use Rattle.erm_machine.proofs.Guards.{either_way}
use Rattle.erm_core_calls.proofs.Moving.{met, stepped, taken}
use Rattle.erm_core_view.specs.Views.{IsQuiet, session_of, stand_of, view_of, work_of}
use Rattle.erm_core_view.proofs.Chained.{unsaved}
use Rattle.erm_core_view.proofs.Moved.{calm_shows, changes_one}
use Rattle.erm_core_view.proofs.Shown.{work_active}
use Rattle.erm_core_view.proofs.Snapshots.{starts_new}
use Rattle.erm_world.specs.Calls.{DidMake}
use Rattle.erm_world.specs.Works.{making}
use Rattle.erm_world.specs.World.{IsSession, Opening, Session, View, Work}
use Rattle.erm_world.specs.World as world
use Rattle.erm_core_steps.specs.Steps.{IsTaken, IsUnseen}
use Rattle.erm_core_steps.proofs.Aborts.{no_flusher, unsealed}
use Rattle.erm_core_steps.proofs.Quiet.{IsActive, quiet_after}
use Rattle.erm_core_steps.proofs.Unseen.{others_stay, unseen_step}
use Rattle.erm_core_turns.proofs.Turns.{one_after, part_stepped}
use Rattle.erm_core_steps.proofs.Places.{active_between}

-- the part after the counter is loaded, and after it is raised
abbrev pub looked : ℕ → Part → Part
looked found x = with_task (if ltb found OBJECT_LIMIT then task.Numbers else task.Rest) x

abbrev pub numbered : ℕ → Part → Part
numbered found x =
    record x { task = task.Rest; current = record x.current { made = if ltb found OBJECT_LIMIT then x.current.made ++ found ∷ [] else x.current.made } }

counter_steps : (seat : ℕ) (c : Core) → IsActive seat c → after_event c seat (kind.LoadCounter Objects) ≡ Some (stepped c seat (kind.LoadCounter Objects) (looked c.shared.objects_drawn (c.seats seat)))
counter_steps seat c at =
    taken c seat (kind.LoadCounter Objects) (looked c.shared.objects_drawn (c.seats seat)) tt refl (met _ _ _ refl (and_from _ _ at.active at.starts))

pub counter_taken : (seat : ℕ) (c : Core) → IsActive seat c → IsTaken c seat (kind.LoadCounter Objects)
counter_taken seat c at = (_, counter_steps seat c at)

-- after the counter is loaded the session stands where it stood
pub record Looked (sessions seat : ℕ) (c d : Core) : Type 0 where
  pub unseen : IsUnseen sessions seat c d
  pub quiet : IsQuiet sessions d
  pub active : IsActive seat d
  pub drawn : d.shared.objects_drawn ≡ c.shared.objects_drawn
  pub numbers : c.shared.objects_drawn < OBJECT_LIMIT → (d.seats seat).task ≡ task.Numbers

pub counter_looked : (sessions seat : ℕ) (c d : Core) → Sound c → IsQuiet sessions c → IsSession (view_of sessions c) seat → IsActive seat c
    → after_event c seat (kind.LoadCounter Objects) ≡ Some d → Looked sessions seat c d
counter_looked sessions seat c d sound quiet session at e =
    let k : Kind = kind.LoadCounter Objects in
    let found : ℕ = c.shared.objects_drawn in
    let steps = counter_steps seat c at in
    let is : d.seats seat ≡ looked found (c.seats seat) = part_stepped c d seat k (looked found (c.seats seat)) steps e in
    let unseen = unseen_step sessions seat c d k sound tt refl refl e (calm_shows seat c d k tt e) in
    let starts : may_start (looked found (c.seats seat)).task ≡ true =
    either_way (λ (u : Task). may_start u ≡ true) (ltb found OBJECT_LIMIT) task.Numbers task.Rest (λ _. refl) (λ _. refl)
    in
    let here : IsActive seat d = record {
      session = at.session;
      active = ap (λ (y : Part). is_active y.place) is ∙ at.active;
      starts = ap (λ (y : Part). may_start y.task) is ∙ starts;
    } in
    let current = unsealed (c.seats seat).place (c.seats seat).current at.active (sound.own seat).ranges.current in
    let stamp : (d.seats seat).current.stamp ≡ 0 = ap (λ (y : Part). y.current.stamp) is ∙ current.stamp in
    let opening : d.shared.opening ≡ c.shared.opening = ap (λ (v : View). v.opening.tail) unseen.view in
    let flushed : d.shared.flushed ≡ c.shared.flushed = ap (λ (v : View). v.flushed) unseen.view in
    let tail : d.shared.tail ≡ c.shared.tail = ap (λ (v : View). v.tail) unseen.view in
    let low = quiet.flushed.0 in
    let high = quiet.flushed.1 in
    record {
      unseen = unseen;
      quiet =
          quiet_after sessions seat c d quiet session unseen.others opening (active_between (d.seats seat).place (d.seats seat).task here.active here.starts)
          (λ some. absurd (omega (arith, some, stamp))) (omega (arith, opening, flushed, low), omega (arith, tail, flushed, high));
      active = here;
      drawn = ap (λ (to : Core). to.shared.objects_drawn) (one_after c d (stepped c seat k (looked found (c.seats seat))) seat k steps e);
      numbers = λ less. ap (λ (y : Part). y.task) is ∙ cond-true (ltb found OBJECT_LIMIT) task.Numbers task.Rest (lt-ltb found OBJECT_LIMIT less);
    }

number_steps : (seat : ℕ) (c : Core) → IsActive seat c → (c.seats seat).task ≡ task.Numbers
    → after_event c seat (kind.AddCounter Objects) ≡ Some (stepped c seat (kind.AddCounter Objects) (numbered c.shared.objects_drawn (c.seats seat)))
number_steps seat c at numbers =
    taken c seat (kind.AddCounter Objects) (numbered c.shared.objects_drawn (c.seats seat)) tt refl
    (met _ _ _ (ap (add_counter c.shared.cell_limit seat Objects c.shared.objects_drawn (c.seats seat)) numbers) (and_from _ _ at.active at.session))

pub number_taken : (sessions seat : ℕ) (c d : Core) → Looked sessions seat c d → c.shared.objects_drawn < OBJECT_LIMIT → IsTaken d seat (kind.AddCounter Objects)
number_taken sessions seat c d at less = (_, number_steps seat d at.active (at.numbers less))

-- the object is made
pub number_made : (sessions seat : ℕ) (b c d : Core) → Sound c → IsSession (view_of sessions b) seat → Looked sessions seat b c → b.shared.objects_drawn < OBJECT_LIMIT
    → after_event c seat (kind.AddCounter Objects) ≡ Some d
    → session_of (d.seats seat) ≡ record { over = (session_of (c.seats seat)).over; stand = world.active (making c.shared.objects_drawn (work_of (c.seats seat).current)) }
    → IsQuiet sessions d × DidMake (view_of sessions b) seat b.shared.objects_drawn (view_of sessions d)
number_made sessions seat b c d sound session at less e shows =
    let k : Kind = kind.AddCounter Objects in
    let found : ℕ = c.shared.objects_drawn in
    let x = c.seats seat in
    let change = changes_one sessions seat c d k sound tt e in
    let is : d.seats seat ≡ numbered found (c.seats seat) = part_stepped c d seat k (numbered found (c.seats seat)) (number_steps seat c at.active (at.numbers less)) e in
    let current = unsealed (c.seats seat).place (c.seats seat).current at.active.active (sound.own seat).ranges.current in
    let stamp : (d.seats seat).current.stamp ≡ 0 = ap (λ (y : Part). y.current.stamp) is ∙ current.stamp in
    let active : is_active (d.seats seat).place ≡ true = ap (λ (y : Part). is_active y.place) is ∙ at.active.active in
    let starts : may_start (d.seats seat).task ≡ true = ap (λ (y : Part). may_start y.task) is in
    let opening : d.shared.opening ≡ c.shared.opening = ap (λ (o : Opening). o.tail) change.opening in
    let flushed = change.flushed in
    let tail = change.tail in
    let low = at.quiet.flushed.0 in
    let high = at.quiet.flushed.1 in
    let work : world.work_of (stand_of (c.seats seat).place (c.seats seat).task (c.seats seat).current) ≡ work_of (c.seats seat).current =
    work_active (c.seats seat).place (c.seats seat).task (c.seats seat).current at.active.active (starts_new (c.seats seat).task (c.seats seat).current at.active.starts)
    in
    let made : ℕ → Work → Session = λ n w. record { over = (session_of (c.seats seat)).over; stand = world.active (making n w) } in
    let here : DidMake (view_of sessions c) seat b.shared.objects_drawn (view_of sessions d) = record {
      own = shows ∙ ap (λ (w : Work). made found w) (sym work) ∙ ap (λ (n : ℕ). made n (world.work_of (stand_of (c.seats seat).place (c.seats seat).task (c.seats seat).current))) at.drawn;
      others = change.others;
      opening = change.opening;
      tail = omega (arith, tail);
      flushed = change.flushed;
      pinned = change.pinned (no_flusher seat at.active.session);
      given_up = refl;
      saves = unsaved sessions seat c d (made b.shared.objects_drawn (world.work_of (stand_of (c.seats seat).place (c.seats seat).task (c.seats seat).current)));
    } in (
      quiet_after sessions seat c d at.quiet session (others_stay c d seat k tt e) opening (active_between (d.seats seat).place (d.seats seat).task active starts)
          (λ some. absurd (omega (arith, some, stamp))) (omega (arith, opening, flushed, low), omega (arith, tail, flushed, high)),
      subst (λ (v : View). DidMake v seat b.shared.objects_drawn (view_of sessions d)) at.unseen.view here,
    )
