-- Snapshots: what the session keeps of one, from its begin to its end.
use Rattle.std.proofs.Common.{◌≡◌, ℕ, ◌+◌, ◌≤◌, Bool, true, List, [], ◌∷◌, length, map, vec_capacity, Vec, Option, None, Some, refl, sym, ap, ◌∙◌, subst, arith}
use Rattle.std.specs.Prelude.{if◌then◌else◌}
use Rattle.std.specs.declared.alloc.Global.{Global}
use Rattle.erm_machine.specs.declared.attempt.Claim.{Claim}
use Rattle.erm_machine.specs.declared.attempt.Decision.TheVariants.{Abort}
use Rattle.erm_machine.specs.declared.attempt.Read.{Read}
use Rattle.erm_machine.specs.declared.limits.TheConstants.{READ_LIMIT, WRITE_LIMIT}
use Rattle.erm_machine.specs.declared.part.Part.{Part}
use Rattle.erm_machine.specs.declared.task.Task.{Task}
use Rattle.erm_machine.specs.declared.task.Task.TheVariants as task
use Rattle.erm_machine.specs.Life.{next_number}
use Rattle.erm_machine.specs.Seat.{is_active, is_safe, is_snapshot, is_vacant, with_task}
use Rattle.erm_machine.proofs.Backs.{safe_snapshot, DidNothing}
use Rattle.erm_model.specs.declared.outcome.Phase.TheVariants as phase
use Rattle.erm_rule.specs.declared.view.Book.{Book}
use Rattle.erm_rule.specs.declared.view.View.{View}
use Rattle.erm_rule.specs.Hands.{IsKnown}
use Rattle.erm_rule.specs.Views.{part_in, part_of}
use Rattle.erm_rule.proofs.Telling.{held_part, part_of-changed}
use Rattle.erm_cells.proofs.Heads.{has}
use Rattle.erm_ends.specs.Ends.{left_part}
use Rattle.erm_ends.specs.Safe.{DidEndSafe}
use Rattle.erm_ends.proofs.Leaves.{session_not_flusher}
use Rattle.erm_ends.proofs.Safe.{none}
use Rattle.erm_rows.specs.Safe.{DidReadSafe}
use Rattle.erm_model.specs.RowTransaction.{Law}
use Rattle.erm_seats.specs.declared.answer.SafeStop.{SafeStop}
use Rattle.erm_seats.specs.declared.answer.SafeStop.TheVariants as stop
use Rattle.erm_seats.specs.Safe.{pending_part, DidBeginSafe, DidNotSurvey, DidSurvey, IsUnsafeBy, TookNoSurvey, TookUnsafe, WaitsFor, WasBack, WasStopMet}
use Rattle.erm_session.specs.declared.room.Room.{Room}
use Rattle.erm_session.specs.declared.session.Session.{Session}
use Rattle.erm_session.specs.declared.session.Stage.{Stage}
use Rattle.erm_session.specs.declared.session.Stage.TheVariants as stage
use Rattle.erm_session.specs.Safe.{IsSnapshotPhase, MayEndSafe}
use Rattle.erm_session.specs.Saves.{HasSaves}
use Rattle.erm_session.specs.Session.{phase_of, rests_safe, HasRoom, IsOpen, IsSession, StageIs}
use Rattle.erm_session.proofs.Begins.{idle_place}
use Rattle.erm_session.proofs.Ending.{left_session}
use Rattle.erm_session.proofs.Keeps.{made_session}

-- a stage in a phase is of that form
pub not_pending : (s : Stage) → phase_of s ≡ phase.Pending → ((begin next : ℕ) → s ≡ stage.Pending begin next → ⊥) → ⊥
not_pending (stage.Pending begin next) at never = never begin next refl
not_pending (stage.Safe begin) at never = absurd (cc)
not_pending stage.Idle at never = absurd (cc)
not_pending (stage.Active t) at never = absurd (cc)
not_pending (stage.Sealed t) at never = absurd (cc)

pub not_safe : (s : Stage) → phase_of s ≡ phase.Safe → ((begin : ℕ) → s ≡ stage.Safe begin → ⊥) → ⊥
not_safe (stage.Safe begin) at never = never begin refl
not_safe (stage.Pending begin next) at never = absurd (cc)
not_safe stage.Idle at never = absurd (cc)
not_safe (stage.Active t) at never = absurd (cc)
not_safe (stage.Sealed t) at never = absurd (cc)

pub not_snapshot : (s : Stage) → IsSnapshotPhase (phase_of s) → ((begin next : ℕ) → s ≡ stage.Pending begin next → ⊥) → ((begin : ℕ) → s ≡ stage.Safe begin → ⊥) → ⊥
not_snapshot (stage.Pending begin next) at neither never = neither begin next refl
not_snapshot (stage.Safe begin) at neither never = never begin refl
not_snapshot stage.Idle at neither never = absurd at
not_snapshot (stage.Active t) at neither never = absurd at
not_snapshot (stage.Sealed t) at neither never = absurd at

-- the begin stamp that it keeps is its seat's
pub pending_begins : (s : Session) (begin next : ℕ) → s.stage ≡ stage.Pending begin next → (x : Part) → IsSession s x → begin ≡ x.current.begin
pending_begins s begin next e x is = sym (subst (λ (g : Stage). StageIs g x) e is.kept.stage).3

pub safe_begins : (s : Session) (begin : ℕ) → s.stage ≡ stage.Safe begin → (x : Part) → IsSession s x → begin ≡ x.current.begin
safe_begins s begin e x is = sym (subst (λ (g : Stage). StageIs g x) e is.kept.stage).2

-- a safe snapshot between two calls is one
pub rests_is_safe : (t : Task) → rests_safe t ≡ true → is_safe t ≡ true
rests_is_safe task.Safe e = refl
rests_is_safe (task.SafeFound version) e = refl
rests_is_safe _ e = absurd (cc)

-- the room of the next transaction stays with a session that has none
has_idle : (s : Stage) (space : Option Room) → phase_of s ≡ phase.Idle → HasRoom s space → HasRoom stage.Idle space
has_idle stage.Idle space idle kept = kept
has_idle (stage.Active t) space idle kept = absurd (cc)
has_idle (stage.Sealed t) space idle kept = absurd (cc)
has_idle (stage.Pending begin next) space idle kept = absurd (cc)
has_idle (stage.Safe begin) space idle kept = absurd (cc)

pending_has : (space : Option Room) (begin next : ℕ) → HasRoom stage.Idle space → HasRoom (stage.Pending begin next) space
pending_has None begin next kept = kept
pending_has (Some room) begin next kept = tt

safe_has : (space : Option Room) (begin : ℕ) → HasRoom stage.Idle space → HasRoom (stage.Safe begin) space
safe_has None begin kept = kept
safe_has (Some room) begin kept = tt

pending_back : (space : Option Room) (begin next : ℕ) → HasRoom (stage.Pending begin next) space → HasRoom stage.Idle space
pending_back None begin next kept = kept
pending_back (Some room) begin next kept = tt

safe_back : (space : Option Room) (begin : ℕ) → HasRoom (stage.Safe begin) space → HasRoom stage.Idle space
safe_back None begin kept = kept
safe_back (Some room) begin kept = tt

snapshot_has : (s : Stage) (space : Option Room) → IsSnapshotPhase (phase_of s) → HasRoom s space → HasRoom stage.Idle space
snapshot_has (stage.Pending begin next) space snapshot kept = pending_back space begin next kept
snapshot_has (stage.Safe begin) space snapshot kept = safe_back space begin kept
snapshot_has stage.Idle space snapshot kept = absurd snapshot
snapshot_has (stage.Active t) space snapshot kept = absurd snapshot
snapshot_has (stage.Sealed t) space snapshot kept = absurd snapshot

-- BEGIN
module _ (s : Session) (v : View) (is : IsSession s (part_of v s.seat)) (idle : phase_of s.stage ≡ phase.Idle)
    (rows_read rows_claimed : Vec (List ℕ) Global) (begin : ℕ) (w : View) (did : DidBeginSafe v s.seat begin w) where
  abbrev x : Part
  x = part_of v s.seat

  abbrev y : Part
  y = pending_part s.seat begin x

  abbrev n : Session
  n = record s { number = s.number + 1; stage = stage.Pending begin 1; rows_read = rows_read; rows_claimed = rows_claimed }

  there : part_in v s.seat ≡ Some x
  there = held_part v s.seat (ap is_vacant (idle_place s x is idle))

  numbered : next_number s.seat x.number ≡ s.number + 1
  numbered = ap (λ (b : Bool). if b then x.number else x.number + 1) (session_not_flusher s.seat is.kept.session) ∙ ap (λ (m : ℕ). m + 1) (sym is.kept.number)

  pub pending_session : rows_read.items ≡ [] → vec_capacity rows_read ≡ vec_capacity s.rows_read → rows_claimed.items ≡ [] → vec_capacity rows_claimed ≡ vec_capacity s.rows_claimed
      → IsSession n (part_of w s.seat)
  pending_session no_read room_read no_claimed room_claimed =
      subst (λ (z : Part). IsSession n z) (sym (part_of-changed v s.seat w y x there did.view_is))
      (record {
        kept = record {
          session = is.kept.session;
          run = is.kept.run;
          low = is.kept.low;
          number = sym numbered;
          stage = (refl, refl, refl, refl, refl);
          room = pending_has s.room begin 1 (has_idle s.stage s.room idle is.kept.room);
          spare = is.kept.spare;
          room_read = subst (λ (m : ℕ). READ_LIMIT ≤ m) (sym room_read) is.kept.room_read;
          room_claimed = subst (λ (m : ℕ). WRITE_LIMIT ≤ m) (sym room_claimed) is.kept.room_claimed;
          block = is.kept.block;
        };
        rows_read = no_read;
        rows_claimed = no_claimed;
        window = tt;
        saves = tt;
      })

-- THE LOOK. Another task of its seat alone is changed.
tasked_session : (s : Session) (u : Task) (g : Stage) (a : Part) → StageIs g (with_task u a) → HasRoom g s.room → IsOpen g (with_task u a) → HasSaves g s.saves (with_task u a) → IsSession s a → IsSession (record s { stage = g }) (with_task u a)
tasked_session s u g a stands room window saves is = record {
  kept = record {
    session = is.kept.session;
    run = is.kept.run;
    low = is.kept.low;
    number = is.kept.number;
    stage = stands;
    room = room;
    spare = is.kept.spare;
    room_read = is.kept.room_read;
    room_claimed = is.kept.room_claimed;
    block = is.kept.block;
  };
  rows_read = is.rows_read;
  rows_claimed = is.rows_claimed;
  window = window;
  saves = saves;
}

module _ (s : Session) (v : View) (is : IsSession s (part_of v s.seat)) (begin from : ℕ) (at : s.stage ≡ stage.Pending begin from) where
  abbrev p : Part
  p = part_of v s.seat

  pub pends : StageIs (stage.Pending begin from) p
  pends = subst (λ (g : Stage). StageIs g p) at is.kept.stage

  spacious : HasRoom stage.Idle s.room
  spacious = pending_back s.room begin from (subst (λ (g : Stage). HasRoom g s.room) at is.kept.room)

  held : part_in v s.seat ≡ Some p
  held = has v s.seat pends.0

  pub safe_session : (w : View) → DidSurvey v s.seat w → IsSession (record s { stage = stage.Safe begin }) (part_of w s.seat)
  safe_session w did =
      subst (λ (z : Part). IsSession (record s { stage = stage.Safe begin }) z) (sym (part_of-changed v s.seat w (with_task task.Safe p) p held did.view_is))
      (tasked_session s task.Safe (stage.Safe begin) p (pends.0, refl, pends.3, pends.4) (safe_has s.room begin spacious) tt tt is)

  pub waiting_session : (seat seen : ℕ) (w : View) → WaitsFor v s.seat seat seen w → IsSession (record s { stage = stage.Pending begin seat }) (part_of w s.seat)
  waiting_session seat seen w waits =
      subst (λ (z : Part). IsSession (record s { stage = stage.Pending begin seat }) z) (sym (part_of-changed v s.seat w (with_task (task.Surveys seat) p) p held waits.view_is))
      (tasked_session s (task.Surveys seat) (stage.Pending begin seat) p (pends.0, refl, waits.session, pends.3, pends.4) (pending_has s.room begin seat spacious) tt tt is)

  pub unsafe_may_end : (seat stamp : ℕ) (w : View) → IsUnsafeBy v s.seat seat stamp w → MayEndSafe s (part_of w s.seat)
  unsafe_may_end seat stamp w unsafe =
      subst (λ (z : Part). MayEndSafe s z) (sym (part_of-changed v s.seat w (with_task (task.Behind seat) p) p held unsafe.view_is))
      (record {
        session = is.kept.session;
        run = is.kept.run;
        low = is.kept.low;
        number = is.kept.number;
        active = pends.0;
        snapshot = refl;
        room = spacious;
        spare = is.kept.spare;
        room_read = is.kept.room_read;
        room_claimed = is.kept.room_claimed;
        block = is.kept.block;
        rows_read = is.rows_read;
        rows_claimed = is.rows_claimed;
      })

-- WHY THE LOOK STOPPED
module _ (v w : View) (who : ℕ) (why : SafeStop) (did : DidNotSurvey v who why w) where
  pub has_waited : (seat seen : ℕ) → why ≡ stop.NotYet seat seen → WaitsFor v who seat seen w
  has_waited seat seen is = subst (λ (s : SafeStop). DidNotSurvey v who s w) is did

  pub was_unsafe : (seat stamp : ℕ) → why ≡ stop.Unsafe seat stamp → IsUnsafeBy v who seat stamp w
  was_unsafe seat stamp is = subst (λ (s : SafeStop). DidNotSurvey v who s w) is did

pub was_back : (b : Book) (why : SafeStop) (e : Book) (seat stamp : ℕ) → why ≡ stop.Unsafe seat stamp → WasStopMet b why e → WasBack b seat stamp e
was_back b why e seat stamp is met = subst (λ (s : SafeStop). WasStopMet b s e) is met

pub took_back : (law : Law) (who : ℕ) (why : SafeStop) (b e : Book) (seat stamp : ℕ) → why ≡ stop.Unsafe seat stamp → TookNoSurvey law who why b e → TookUnsafe law who seat stamp b e
took_back law who why b e seat stamp is took = subst (λ (s : SafeStop). TookNoSurvey law who s b e) is took

-- A READ
module _ (s : Session) (b : Book) (is : IsSession s (part_of b.view s.seat)) (begin : ℕ) (at : s.stage ≡ stage.Safe begin) where
  abbrev q : Part
  q = part_of b.view s.seat

  pub stands_safe : StageIs (stage.Safe begin) q
  stands_safe = subst (λ (g : Stage). StageIs g q) at is.kept.stage

  pub read_session : (oid : ℕ) (row : List ℕ) (e : Book) → DidReadSafe b s.seat oid row e → IsSession s (part_of e.view s.seat)
  read_session oid row e did =
      let found : Part = with_task (task.SafeFound did.version) q in
      subst (λ (z : Part). IsSession s z) (sym (part_of-changed b.view s.seat e.view found q (has b.view s.seat stands_safe.0) did.view_is))
      (made_session s (task.SafeFound did.version) q.current.made q (subst (λ (g : Stage). StageIs g found) (sym at) (stands_safe.0, refl, stands_safe.2, stands_safe.3)) is)

-- THE END
snapshot_active : (s : Stage) (a : Part) → IsSnapshotPhase (phase_of s) → StageIs s a → is_active a.place ≡ true
snapshot_active (stage.Pending begin next) a snapshot is = is.0
snapshot_active (stage.Safe begin) a snapshot is = is.0
snapshot_active stage.Idle a snapshot is = absurd snapshot
snapshot_active (stage.Active t) a snapshot is = absurd snapshot
snapshot_active (stage.Sealed t) a snapshot is = absurd snapshot

snapshot_task : (s : Stage) (a : Part) → IsSnapshotPhase (phase_of s) → StageIs s a → is_snapshot a.task ≡ true
snapshot_task (stage.Pending begin next) a snapshot is = ap is_snapshot is.1
snapshot_task (stage.Safe begin) a snapshot is = safe_snapshot a.task (rests_is_safe a.task is.1)
snapshot_task stage.Idle a snapshot is = absurd snapshot
snapshot_task (stage.Active t) a snapshot is = absurd snapshot
snapshot_task (stage.Sealed t) a snapshot is = absurd snapshot

pub may_end_safe : (s : Session) (a : Part) → IsSession s a → IsSnapshotPhase (phase_of s.stage) → MayEndSafe s a
may_end_safe s a is snapshot = record {
  session = is.kept.session;
  run = is.kept.run;
  low = is.kept.low;
  number = is.kept.number;
  active = snapshot_active s.stage a snapshot is.kept.stage;
  snapshot = snapshot_task s.stage a snapshot is.kept.stage;
  room = snapshot_has s.stage s.room snapshot is.kept.room;
  spare = is.kept.spare;
  room_read = is.kept.room_read;
  room_claimed = is.kept.room_claimed;
  block = is.kept.block;
  rows_read = is.rows_read;
  rows_claimed = is.rows_claimed;
}

no_rows : {X : Type 0} (row_of : X → List ℕ) (xs : List X) → length xs ≡ 0 → map row_of xs ≡ []
no_rows row_of [] many = refl
no_rows row_of (x ∷ xs) many = absurd (omega (arith, many))

module _ (s : Session) (v : View) (known : IsKnown v) (may : MayEndSafe s (part_of v s.seat)) where
  abbrev a : Part
  a = part_of v s.seat

  abbrev z : Part
  z = left_part Abort a

  nothing : DidNothing a.current
  nothing = none v s.seat known may.session may.active may.snapshot

  pub ended_safe : (w : View) → DidEndSafe v s.seat w → IsSession (record s { stage = stage.Idle }) (part_of w s.seat)
  ended_safe w did =
      subst (λ (k : Part). IsSession (record s { stage = stage.Idle }) k) (sym (part_of-changed v s.seat w z a (has v s.seat may.active) did.view_is))
      (left_session (record s { stage = stage.Idle }) a z (record { place = refl; run = refl; number = refl; current = refl }) may.session may.run may.low may.number refl may.room may.spare
      may.room_read may.room_claimed may.block (may.rows_read ∙ no_rows (λ (r : Read). r.row) a.current.reads nothing.reads)
      (may.rows_claimed ∙ no_rows (λ (c : Claim). c.row) a.current.writes nothing.writes))
