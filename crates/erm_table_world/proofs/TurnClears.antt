-- The clearing of what was gathered: its steps in the one state. Which word a step clears follows from how far the flush seat has come.
use Rattle.std.proofs.Common.{◌≡◌, ℕ, ◌+◌, ◌<◌, ◌≤◌, ⊎_elim, Bool, false, ◌&&◌, List, [], ◌∷◌, Some, refl, sym, ap, ◌∙◌, subst, arith}
use Rattle.std.specs.Prelude.{if◌then◌else◌}
use Rattle.std.proofs.lemmas.Bool.{and_parts, cases_eq, eqb-true, ltb-true}
use Rattle.erm_cells.specs.Calls.{starts_anew}
use Rattle.erm_core_turns.specs.Turns.{HasToClear}
use Rattle.erm_core_turns.proofs.Blocks.{place_of, place_upto}
use Rattle.erm_core_turns.proofs.Clears.{Clears, all_cleared, clears_more, flush_done, has_to_clear}
use Rattle.erm_core_turns.proofs.Gathers.{turn_step}
use Rattle.erm_core_turns.proofs.LogIs.{Lists, gathered_behind}
use Rattle.erm_core_turns.proofs.Turns.{step_leaves}
use Rattle.erm_core_view.specs.Views.{IsBetween}
use Rattle.erm_machine.specs.declared.event.Kind.{Kind}
use Rattle.erm_machine.specs.declared.event.Kind.TheVariants as kind
use Rattle.erm_machine.specs.declared.limits.TheConstants.{FLUSH_SEAT}
use Rattle.erm_machine.specs.declared.part.Flushing.{Flushing}
use Rattle.erm_machine.specs.declared.part.Flushing.TheVariants as flushing
use Rattle.erm_machine.specs.declared.part.Part.{Part}
use Rattle.erm_machine.specs.declared.place.Place.{Place}
use Rattle.erm_machine.specs.declared.place.Place.TheVariants.{Active, Idle, Sealed}
use Rattle.erm_machine.specs.declared.task.Task.{Task}
use Rattle.erm_machine.specs.declared.task.Task.TheVariants as task
use Rattle.erm_machine.specs.Core.{Core}
use Rattle.erm_machine.specs.Flushing.{clear_ring, load_flushed, store_flushed}
use Rattle.erm_machine.specs.Lives.{IsPin}
use Rattle.erm_machine.specs.Seat.{is_sealed, with_task}
use Rattle.erm_machine.specs.Settling.{has_room, load_flushed_to_settle, may_settle}
use Rattle.erm_machine.specs.Step.{after_event}
use Rattle.erm_machine.proofs.Frames.{put_same}
use Rattle.erm_machine.proofs.Guards.{when_then}
use Rattle.erm_machine.proofs.QuietKinds.{moves}
use Rattle.erm_model.specs.RowTransaction.{Law}
use Rattle.erm_ring.specs.Turns as ring
use Rattle.erm_ring.specs.Took.{IsClearStep, TookClear}
use Rattle.erm_rule.specs.declared.view.Book.{Book}
use Rattle.erm_rule.specs.Steps.{Booked}
use Rattle.erm_rule.specs.Went.{AllSteps, Took, core_of}
use Rattle.erm_world.specs.Log.{gathered_to}
use Rattle.erm_table_world.proofs.Covered.{turn_covered}
use Rattle.erm_table_world.specs.Stands.{IsStateful, StandsAt}
use Rattle.erm_table_world.specs.Flusher.{task_in}
use Rattle.erm_table_world.specs.Turns.{Turned, book_log}
use Rattle.erm_table_world.proofs.TurnGathers.{seat_held}
use Rattle.erm_table_world.proofs.Wholly.{part_is, runs}

abbrev F : ℕ
F = FLUSH_SEAT

-- GUARDS. A load of the place flushed leaves a flush seat that has gathered.
pin_unsealed : (pl : Place) (u : Task) → IsBetween pl u → IsPin pl → is_sealed pl ≡ false
pin_unsealed Idle u between pin = refl
pin_unsealed (Active tail) u between pin = refl
pin_unsealed (Sealed tail stamp) u between pin = absurd pin
pin_unsealed _ u between pin = absurd between

settles_not : (found : ℕ) (x : Part) → is_sealed x.place ≡ false → load_flushed_to_settle found x ≡ x
settles_not found x e =
    ap (λ (t : Bool). let y : Part = if t && may_settle x.task && has_room found x.current then with_task (task.Settles 0 0) x else x in y) e

load_leaves : (found tail from to : ℕ) (x y : Part) (f : Flushing) → f ≡ flushing.Gathers tail from to to to → is_sealed x.place ≡ false → load_flushed found x f ≡ Some y → y ≡ x
load_leaves found tail from to x y f is plain e =
    when_then (λ (z : Part). z ≡ x) _ (load_flushed_to_settle found x) y (sym (ap (load_flushed found x) is) ∙ e) (λ _. settles_not found x plain)

-- a clearing begins at the first word that was gathered, and goes on at the next one
clears_first : (place tail from to : ℕ) (x y : Part) (f : Flushing) → f ≡ flushing.Gathers tail from to to to → clear_ring place x f ≡ Some y → place ≡ from
clears_first place tail from to x y f is e =
    when_then (λ _. place ≡ from) _ _ y (sym (ap (clear_ring place x) is) ∙ e) (λ t. eqb-true place from (and_parts _ _ (and_parts _ _ (and_parts _ _ t).0).0).0)

clears_next : (place next to : ℕ) (x y : Part) (f : Flushing) → f ≡ flushing.Clears next to → clear_ring place x f ≡ Some y → (place ≡ next) × (next < to)
clears_next place next to x y f is e =
    when_then (λ _. (place ≡ next) × (next < to)) _ _ y (sym (ap (clear_ring place x) is) ∙ e)
    (λ t. (eqb-true place next (and_parts _ _ (and_parts _ _ t).0).0, ltb-true next to (and_parts _ _ t).1))

-- and the place is stored once all is cleared
stores_none : (value tail from to : ℕ) (x y : Part) (f : Flushing) → f ≡ flushing.Gathers tail from to to to → store_flushed value x f ≡ Some y → ⊥
stores_none value tail from to x y f is e = let none = sym (ap (store_flushed value x) is) ∙ e in cc

stores_last : (value next to : ℕ) (x y : Part) (f : Flushing) → f ≡ flushing.Clears next to → store_flushed value x f ≡ Some y → next ≡ to
stores_last value next to x y f is e = when_then (λ _. next ≡ to) _ _ y (sym (ap (store_flushed value x) is) ∙ e) (λ t. eqb-true next to (and_parts _ _ t).0)

module _ (law : Law) (lists : Lists law) (sessions : ℕ) (b e : Book) (at : StandsAt law sessions b) (to : ℕ)
    (end_is : to ≡ gathered_to (book_log sessions b)) (above : (core_of b).shared.flushed < to) where
  abbrev c : Core
  c = core_of b

  abbrev from : ℕ
  from = c.shared.flushed

  is : to ≡ place_of c
  is = end_is ∙ gathered_behind law lists sessions c at.state.sound at.quiet

  pub has : HasToClear from to c
  has = has_to_clear sessions to c at.state.sound.sound at.quiet is above

  -- which a clearing asks of the pass's view
  pub may_clear : ring.MayClear to b.view
  may_clear = record {
    held = seat_held law sessions b at;
    tail = has.tail;
    from = from;
    gathered = ap (λ (x : Part). x.flushing) (part_is law b F at.state refl) ∙ has.is;
    some = above;
  }

  -- so far the words up to a place are cleared
  record Cleared (m : Book) : Type 0 where
    state : IsStateful law m
    next : ℕ
    low : from ≤ next
    clears : Clears from to next c (core_of m)

  unsealed : is_sealed (c.seats F).place ≡ false
  unsealed = pin_unsealed (c.seats F).place (c.seats F).task (at.quiet.flusher F refl).rests ((at.state.sound.sound.own F).lives.pinned refl)

  loaded : (found : ℕ) (m : Book) → Booked law b F kind.LoadFlushed found m → Cleared m
  loaded found m booked =
      let run = runs law b F kind.LoadFlushed found m booked at.state in
      let step = moves c F kind.LoadFlushed (core_of m) tt run.event in
      let same : step.part ≡ c.seats F = load_leaves c.shared.flushed has.tail from to (c.seats F) step.part (c.seats F).flushing has.is unsealed step.after in
      let now : (core_of m).seats F ≡ c.seats F = ap (λ (d : Core). d.seats F) step.is ∙ put_same c.seats F step.part ∙ same in
      let there : HasToClear from to (core_of m) = record { some = above; tail = has.tail; is = ap (λ (x : Part). x.flushing) now ∙ has.is } in
      record {
        state = run.state;
        next = from;
        low = omega arith;
        clears = record {
          flushes = step_leaves c (core_of m) kind.LoadFlushed step.part tt step.is (ap (λ (x : Part). x.over) same);
          pin = record {
            place = ap (λ (x : Part). x.place) now;
            task = ap (λ (x : Part). x.task) now;
            current = ap (λ (x : Part). x.current) now;
            run = ap (λ (x : Part). x.run) now;
          };
          flushed = ap (λ (d : Core). d.shared.flushed) step.is;
          first = λ _. there;
          later = λ less. absurd (omega (arith, less));
        };
      }

  one_more : (k : Kind) (found : ℕ) (m f : Book) → IsClearStep k found → Cleared m → Booked law m F k found f → Cleared f
  one_more (kind.ClearRing place) found m f clear before booked =
      let run = runs law m F (kind.ClearRing place) found f booked before.state in
      let d = core_of m in
      let step = moves d F (kind.ClearRing place) (core_of f) tt run.event in
      let here : (place ≡ before.next) × (before.next < to) =
      ⊎_elim
      (λ (first : before.next ≡ from).
      let there = before.clears.first first in
      let begins = clears_first place there.tail from to (d.seats F) step.part (d.seats F).flushing there.is step.after in
      (begins ∙ sym first, omega (arith, first, above)))
      (λ (ne : before.next ≡ from → ⊥).
      let low = before.low in
      clears_next place before.next to (d.seats F) step.part (d.seats F).flushing (before.clears.later (omega (arith, ne, low))) step.after)
      (cases_eq before.next from)
      in
      let low = before.low in
      record {
        state = run.state;
        next = before.next + 1;
        low = omega (arith, low);
        clears =
            clears_more from to before.next c d before.state.sound.sound before.clears before.low here.1 (core_of f)
            (subst (λ (n : ℕ). after_event d F (kind.ClearRing n) ≡ Some (core_of f)) here.0 run.event);
      }
  one_more _ found m f clear before booked = absurd clear

  more : (steps : List (Kind × ℕ)) (first m : Book) → Cleared first → Took law F steps first m → AllSteps IsClearStep steps → Cleared m
  more [] first m start took all = subst Cleared (sym took) start
  more (s ∷ steps) first m start took all = one_more s.0 s.1 took.0 m all.0 (more steps first took.0 start took.1 all.1) took.2

  pub record Flushed : Type 0 where
    pub turned : Turned law sessions b e
    pub task : task_in e ≡ task_in b
    pub log_is : book_log sessions e ≡ record (book_log sessions b) { flushed = to }

  pub flushed : TookClear law to b e → Flushed
  flushed took =
      let loads = loaded took.from took.clears.first took.clears.load in
      let before = more took.clears.clears.steps took.clears.first took.cleared loads took.clears.clears.took took.clears.clears.all in
      let d = core_of took.cleared in
      let run = runs law took.cleared F (kind.StoreFlushed to) took.word e took.step before.state in
      let step = moves d F (kind.StoreFlushed to) (core_of e) tt run.event in
      let low = before.low in
      let last : before.next ≡ to =
      ⊎_elim
      (λ (first : before.next ≡ from).
      let there = before.clears.first first in absurd (stores_none to there.tail from to (d.seats F) step.part (d.seats F).flushing there.is step.after))
      (λ (ne : before.next ≡ from → ⊥). stores_last to before.next to (d.seats F) step.part (d.seats F).flushing (before.clears.later (omega (arith, ne, low))) step.after)
      (cases_eq before.next from)
      in
      let cleared = all_cleared from to c d above (subst (λ (n : ℕ). Clears from to n c d) last before.clears) in
      let within = (place_upto c at.state.sound.sound).0.within in
      let here = is in
      let done = flush_done sessions to c d (core_of e) before.state.sound.sound at.quiet above is (omega (arith, here, within)) cleared run.event in
      let task : task_in e ≡ task_in b = (turn_step d (core_of e) (kind.StoreFlushed to) tt run.event).pin.task ∙ cleared.pin.task in
      record {
        turned = record {
          at = record { state = run.state; quiet = done.1; covered = turn_covered sessions c (core_of e) at.quiet done.0 at.covered; starts = ap starts_anew task ∙ at.starts };
          flushes = done.0;
        };
        task = task;
        log_is = done.2;
      }
