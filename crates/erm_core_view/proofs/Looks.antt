-- What the steps of a snapshot show: once its begin word is raised it is pending, and after a look it is that still, or safe.
use Rattle.std.proofs.Common.{◌≡◌, ℕ, ◌+◌, ◌<◌, true, eqb, leb, ltb, ◌&&◌, ◌||◌, Some, map, refl, sym, ap, ◌∙◌, arith, eqb-true}
use Rattle.std.specs.Prelude.{if◌then◌else◌}
use Rattle.std.proofs.lemmas.Bool.{and_parts, cond-true}
use Rattle.erm_machine.specs.declared.attempt.Attempt.{Attempt}
use Rattle.erm_machine.specs.declared.event.Kind.TheVariants as kind
use Rattle.erm_machine.specs.declared.limits.TheConstants.{SESSIONS}
use Rattle.erm_machine.specs.declared.part.Part.{Part}
use Rattle.erm_machine.specs.declared.place.Place.{Place}
use Rattle.erm_machine.specs.declared.place.Place.TheVariants.{Active}
use Rattle.erm_machine.specs.declared.task.Task.{Task}
use Rattle.erm_machine.specs.declared.task.Task.TheVariants as task
use Rattle.erm_machine.specs.Core.{Core}
use Rattle.erm_machine.specs.Life.{after_passed, after_survey, load_back, load_begin, store_begin}
use Rattle.erm_machine.specs.Seat.{is_active, is_safe, is_snapshot, with_task}
use Rattle.erm_machine.specs.Step.{after_event}
use Rattle.erm_machine.proofs.Guards.{either_way, if_then, when_then}
use Rattle.erm_machine.proofs.QuietKinds.{moves}
use Rattle.erm_world.specs.World.{Session, Stand}
use Rattle.erm_world.specs.World as world
use Rattle.erm_core_view.specs.Steps.{snapshot_session}
use Rattle.erm_core_view.specs.Views.{finished_of, session_of, stand_of}
use Rattle.erm_core_view.proofs.Moved.{own_after}

-- an active seat shows the snapshot that its task is of
shown_snapshot : (pl : Place) (u : Task) (t : Attempt) → is_active pl ≡ true → is_snapshot u ≡ true
    → stand_of pl u t ≡ world.snapshot (record { number = t.number; begin = t.begin; is_safe = is_safe u })
shown_snapshot (Active tail) u t active is = cond-true (is_snapshot u) (world.snapshot (record { number = t.number; begin = t.begin; is_safe = is_safe u })) _ is
shown_snapshot _ u t active is = absurd (cc)

-- THE BEGIN WORD is raised
raises : (seat value : ℕ) (x : Part) (pl : Place) (y : Part) → is_active pl ≡ true → 0 < value → store_begin seat value x pl ≡ Some y → session_of y ≡ snapshot_session x (task.Surveys 1)
raises seat value x (Active tail) y active some e =
    if_then (λ (z : Part). session_of z ≡ snapshot_session x (task.Surveys 1)) (eqb value 0) _ _ y e
    (λ none _. let is = eqb-true value 0 none in absurd (omega (arith, is, some)))
    (λ _ h. when_then (λ (z : Part). session_of z ≡ snapshot_session x (task.Surveys 1)) _ _ y h (λ _. refl))
raises seat value x _ y active some e = absurd (cc)

pub raise_shows : (seat value : ℕ) (c d : Core) → is_active (c.seats seat).place ≡ true → 0 < value → after_event c seat (kind.StoreBegin value) ≡ Some d
    → session_of (d.seats seat) ≡ snapshot_session (c.seats seat) (task.Surveys 1)
raise_shows seat value c d active some e =
    let m = moves c seat (kind.StoreBegin value) d tt e in
    ap session_of (own_after c seat (kind.StoreBegin value) d m) ∙ raises seat value (c.seats seat) (c.seats seat).place m.part active some m.after

-- A LOOK leads to the next session, or stays, and behind the last one the snapshot is safe
passed_is : (next : ℕ) → is_snapshot (after_passed next) ≡ true
passed_is next = either_way (λ (u : Task). is_snapshot u ≡ true) (eqb next SESSIONS) task.Safe (task.Surveys (next + 1)) (λ _. refl) (λ _. refl)

surveyed_is : (seat begin found next : ℕ) → is_snapshot (after_survey seat begin found next) ≡ true
surveyed_is seat begin found next =
    either_way (λ (u : Task). is_snapshot u ≡ true) (eqb next seat) (after_passed next) (if eqb found 0 || leb begin found then task.Behind next else task.Surveys next)
    (λ _. passed_is next)
    (λ _. either_way (λ (u : Task). is_snapshot u ≡ true) (eqb found 0 || leb begin found) (task.Behind next) (task.Surveys next) (λ _. refl) (λ _. refl))

shows_next : (x : Part) (u : Task) → is_active x.place ≡ true → is_snapshot u ≡ true → session_of (with_task u x) ≡ snapshot_session x u
shows_next x u active is =
    ap (λ (at : Stand). let s : Session = record { over = map finished_of x.over; stand = at } in s) (shown_snapshot x.place u x.current active is)

-- what a part shows, and by which task
record Looked (x y : Part) : Type 0 where
  shows : session_of y ≡ snapshot_session x y.task

surveys : (seat other found : ℕ) (x : Part) (t : Task) (y : Part) → is_snapshot t ≡ true → load_begin seat other found x t ≡ Some y → Looked x y
surveys seat other found x (task.Surveys next) y is e =
    when_then (Looked x) (is_active x.place && eqb other next) (with_task (after_survey seat x.current.begin found next) x) y e (λ g.
    record { shows = shows_next x (after_survey seat x.current.begin found next) (and_parts (is_active x.place) (eqb other next) g).0 (surveyed_is seat x.current.begin found next) })
surveys seat other found x (task.Horizon version least next) y is e = absurd (cc)
surveys seat other found x _ y is e = absurd (cc)

behind : (other found : ℕ) (x : Part) (t : Task) (y : Part) → load_back other found x t ≡ Some y → Looked x y
behind other found x (task.Behind next) y e =
    let to : Task = if ltb found x.current.begin then after_passed next else task.Behind next in
    let is : is_snapshot to ≡ true = either_way (λ (u : Task). is_snapshot u ≡ true) (ltb found x.current.begin) (after_passed next) (task.Behind next) (λ _. passed_is next) (λ _. refl) in
    when_then (Looked x) (is_active x.place && eqb other next) (with_task to x) y e (λ g.
    record { shows = shows_next x to (and_parts (is_active x.place) (eqb other next) g).0 is })
behind other found x _ y e = absurd (cc)

pub survey_shows : (seat other : ℕ) (c d : Core) → is_snapshot (c.seats seat).task ≡ true → after_event c seat (kind.LoadBegin other) ≡ Some d
    → session_of (d.seats seat) ≡ snapshot_session (c.seats seat) (d.seats seat).task
survey_shows seat other c d is e =
    let k = kind.LoadBegin other in
    let m = moves c seat k d tt e in
    let own = own_after c seat k d m in
    ap session_of own ∙ (surveys seat other _ (c.seats seat) (c.seats seat).task m.part is m.after).shows ∙ ap (λ (y : Part). snapshot_session (c.seats seat) y.task) (sym own)

pub look_shows : (seat other : ℕ) (c d : Core) → after_event c seat (kind.LoadBack other) ≡ Some d
    → session_of (d.seats seat) ≡ snapshot_session (c.seats seat) (d.seats seat).task
look_shows seat other c d e =
    let k = kind.LoadBack other in
    let m = moves c seat k d tt e in
    let own = own_after c seat k d m in
    ap session_of own ∙ (behind other _ (c.seats seat) (c.seats seat).task m.part m.after).shows ∙ ap (λ (y : Part). snapshot_session (c.seats seat) y.task) (sym own)
