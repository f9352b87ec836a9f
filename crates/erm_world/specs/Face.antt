-- What a session of a world is as a transaction over rows.
use Rattle.std.specs.Prelude.{◌≡◌, ◌≢◌, ℕ, true, is_some, ◌∷◌, [], ◌++◌}
use Rattle.erm_model.specs.declared.outcome.Phase.TheVariants.{Active}
use Rattle.erm_model.specs.declared.row_stop.RowStop.{RowStop}
use Rattle.erm_model.specs.Lawful.{times_made}
use Rattle.erm_model.specs.RowTransaction.{Asked, Event, Face, Law, asked_claim, asked_make, asked_read, did_claim, did_make, did_read, did_write}
use Rattle.erm_world.specs.Calls.{DidClaim, DidMake, DidNotClaim, DidNotMake, DidNotRead, DidRead, DidWrite}
use Rattle.erm_world.specs.Going.{Extends}
use Rattle.erm_world.specs.Laws.{FitsWork}
use Rattle.erm_world.specs.Works.{is_claimed, row_read, seen_by}
use Rattle.erm_world.specs.World.{Finished, IsSession, Session, Stand, View, Work, phase_at, work_at}
use Rattle.erm_world.specs.World as world

-- the call of which this was the event was answered
abbrev pub Answered : View → ℕ → Event → View → Type 0
Answered v seat (did_read oid row) t = DidRead v seat oid row t
Answered v seat (did_claim oid) t = DidClaim v seat oid t
Answered v seat (did_write oid row) t = DidWrite v seat oid row t
Answered v seat (did_make oid) t = DidMake v seat oid t

-- the call that asked for this was refused so
abbrev pub WasRefused : View → ℕ → Asked → RowStop → View → Type 0
WasRefused v seat (asked_read oid) stop t = DidNotRead v seat oid stop t
WasRefused v seat (asked_claim oid) stop t = DidNotClaim v seat oid stop t
WasRefused v seat asked_make stop t = DidNotMake v seat stop t

-- a session that goes on with its transaction: where it was active, this has gone on, or was aborted after it had
pub data Grows (s t : Session) : Type 0 where
  same : t ≡ s → Grows s t
  works : (w u : Work) → s.stand ≡ world.active w → t.over ≡ s.over → t.stand ≡ world.active u → Extends w u → Grows s t
  ends : (w u : Work) → s.stand ≡ world.active w → t.over ≡ s.over ++ record { work = u; fate = world.aborts } ∷ [] → t.stand ≡ world.idle
      → Extends w u → Grows s t

-- the session goes on, and nothing else changes
pub record Goes (v : View) (seat : ℕ) (t : View) : Type 0 where
  pub own : Grows (v.session seat) (t.session seat)
  pub others : (q : ℕ) → q ≢ seat → t.session q ≡ v.session q
  pub opening : t.opening ≡ v.opening
  pub tail : t.tail ≡ v.tail
  pub flushed : t.flushed ≡ v.flushed
  pub pinned : t.pinned ≡ v.pinned
  pub saves : phase_at t seat ≡ Active → t.saves seat ≡ v.saves seat
  pub saves_of_others : (q : ℕ) → q ≢ seat → t.saves q ≡ v.saves q

-- A session of a world as a transaction: it may have begun on the arrays that fit its work, and sees what its claims leave laid
-- over them. `one` says that two states hold one world. Its calls are all of one seat.
abbrev pub world_face : {S : Type 0} → Law → (S → View) → (S → ℕ) → (S → Type 0) → (S → S → Type 0) → Face S
world_face law view seat stands one = record {
  law = law;
  active = λ s. stands s × IsSession (view s) (seat s) × (phase_at (view s) (seat s) ≡ Active);
  fits = λ s begun. FitsWork law (work_at (view s) (seat s)) begun;
  rows = λ s begun. seen_by (work_at (view s) (seat s)) begun;
  made = λ s x. times_made (work_at (view s) (seat s)).made x;
  claims = λ s x. is_claimed (work_at (view s) (seat s)).claims x ≡ true;
  reads = λ s x. is_some (row_read (work_at (view s) (seat s)).reads x) ≡ true;
  follows = λ s t. one s t × (seat t ≡ seat s) × (stands s → stands t) × Goes (view s) (seat s) (view t);
  answers = λ s event t. (seat t ≡ seat s) × Answered (view s) (seat s) event (view t);
  stops = λ s asked stop t. WasRefused (view s) (seat s) asked stop (view t);
}
