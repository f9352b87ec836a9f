-- The machine's state as a world of sessions, whatever its seats are in the middle of: a call in progress shows what it has done, and a
-- transaction of which nothing is left to be decided is over.
use Rattle.std.specs.Prelude.{◌≡◌, ℕ, ◌<◌, ◌≤◌, false, List, [], ◌∷◌, ◌++◌, flat_map, map, Option, Some, None}
use Rattle.erm_model.specs.declared.limits.TheConstants.{SESSIONS, TABLE_CELLS}
use Rattle.erm_machine.specs.declared.attempt.Attempt.{Attempt}
use Rattle.erm_machine.specs.declared.attempt.Decision.{Decision}
use Rattle.erm_machine.specs.declared.attempt.Decision.TheVariants.{Abort}
use Rattle.erm_machine.specs.declared.part.Part.{Part}
use Rattle.erm_machine.specs.declared.place.Place.{Place}
use Rattle.erm_machine.specs.declared.place.Place.TheVariants.{Active, Decided, Drawn, Leaving, Sealed, Sealing, Vacant}
use Rattle.erm_machine.specs.declared.task.Task.{Task}
use Rattle.erm_machine.specs.declared.task.Task.TheVariants as task
use Rattle.erm_machine.specs.Core.{Core}
use Rattle.erm_machine.specs.Facts.{all_of}
use Rattle.erm_machine.specs.Words.{is_flusher, is_seat}
use Rattle.erm_core_view.specs.Views.{fate_of, finished_of, shown_by, view_of, work_of}
use Rattle.erm_world.specs.World.{Finished, GivenUp, Session, Stand, View}
use Rattle.erm_world.specs.World as world

-- how the current transaction has ended, if it has: an active one whose claims are being released has aborted, and a decided one is over as it was
-- decided
abbrev pub ended_as : Place → Task → Attempt → Option Decision
ended_as (Active tail) (task.Ends raised ended step cleared) t = Some Abort
ended_as (Decided tail stamp) u t = Some t.decision
ended_as (Leaving stamp) u t = Some t.decision
ended_as p u t = None

-- so it is over
abbrev pub over_now : Option Decision → Attempt → List Finished
over_now None t = []
over_now (Some d) t = record { work = work_of t; fate = fate_of d t } ∷ []

-- or it is in progress: from the draw of its range on it is sealed
abbrev pub shown_stand : Place → Task → Attempt → Stand
shown_stand (Active tail) (task.Ends raised ended step cleared) t = world.idle
shown_stand (Active tail) u t = shown_by u t
shown_stand (Sealing tail) u t = world.active (work_of t)
shown_stand (Drawn tail stamp) u t = world.sealed (work_of t) stamp
shown_stand (Sealed tail stamp) u t = world.sealed (work_of t) stamp
shown_stand p u t = world.idle

abbrev pub shown_session : Part → Session
shown_session x = record {
  over = map finished_of x.over ++ over_now (ended_as x.place x.task x.current) x.current;
  stand = shown_stand x.place x.task x.current;
}

-- the claims that the transactions of a seat gave up, for want of a cell
abbrev pub given_up_of : Part → List GivenUp
given_up_of x = flat_map (λ t. map (λ oid. record { number = t.number; oid = oid }) t.given_up) (all_of x)

-- the state as a world of so many sessions, in which no call cuts off more versions than there are cells
abbrev pub shown_of : ℕ → Core → View
shown_of sessions c = record (view_of sessions c) {
  opening = record (view_of sessions c).opening { cuts = TABLE_CELLS };
  session = λ q. shown_session (c.seats q);
  given_up = λ q. given_up_of (c.seats q);
}

-- no seat without words has had a transaction
abbrev pub NoneElse : Core → Type 0
NoneElse c = (q : ℕ) → is_seat q ≡ false → (c.seats q).over ≡ []

-- no seat but so many sessions', and the flusher's, has a transaction, or has had one
pub record HasOnly (sessions : ℕ) (c : Core) : Type 0 where
  pub few : sessions ≤ SESSIONS
  pub vacant : (q : ℕ) → (0 < q → q ≤ sessions → ⊥) → is_flusher q ≡ false → (c.seats q).place ≡ Vacant
  pub unused : (q : ℕ) → (0 < q → q ≤ sessions → ⊥) → is_flusher q ≡ false → (c.seats q).over ≡ []
