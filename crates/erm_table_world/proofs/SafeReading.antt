-- A read of a safe snapshot: the world stays, and the row is that of the snapshot; and in which phase a session with a snapshot is.
use Rattle.std.proofs.Common.{◌≡◌, ℕ, ◌<◌, Bool, true, false, List, refl, sym, ap, ◌∙◌, subst}
use Rattle.std.specs.Prelude.{if◌then◌else◌}
use Rattle.erm_model.specs.declared.limits.TheConstants.{OID_LIMIT}
use Rattle.erm_model.specs.declared.outcome.Phase.TheVariants as phase
use Rattle.erm_model.specs.History.{History, IsNewestBelow}
use Rattle.erm_model.specs.RowTransaction.{Law}
use Rattle.erm_machine.specs.declared.part.Part.{Part}
use Rattle.erm_machine.specs.declared.task.Task.TheVariants as task
use Rattle.erm_machine.specs.declared.version.VersionAt.{VersionAt}
use Rattle.erm_machine.specs.Core.{Core}
use Rattle.erm_machine.specs.Decided as machine
use Rattle.erm_machine.specs.Lawful.{opening_rows}
use Rattle.erm_machine.specs.Seat.{is_active, is_safe, with_task}
use Rattle.erm_machine.specs.Sound.{Sound}
use Rattle.erm_machine.specs.Words.{is_seat, is_session}
use Rattle.erm_machine.proofs.Backs.{safe_snapshot}
use Rattle.erm_core_view.specs.Views.{IsQuiet, session_of, view_of}
use Rattle.erm_core_view.proofs.Commits.{has_the_history}
use Rattle.erm_core_steps.proofs.Aborts.{no_flusher}
use Rattle.erm_rows.specs.Safe.{DidReadSafe}
use Rattle.erm_rule.specs.declared.view.Book.{Book}
use Rattle.erm_rule.specs.Views.{part_of}
use Rattle.erm_rule.specs.Went.{IsLoadStep, Went, core_of}
use Rattle.erm_rule.proofs.Wents.{loads_still}
use Rattle.erm_rule.proofs.Whole.{one_state}
use Rattle.erm_safe_reads.specs.Calls.{IsSafeRow, stamp_of}
use Rattle.erm_session.specs.declared.session.Stage.{Stage}
use Rattle.erm_session.specs.declared.session.Stage.TheVariants as stage
use Rattle.erm_session.specs.Safe as session
use Rattle.erm_session.specs.Safe.{IsSnapshotPhase, TookNoSafe}
use Rattle.erm_session.specs.Session.{StageIs, phase_of}
use Rattle.erm_session.proofs.Snapshots.{rests_is_safe}
use Rattle.erm_world.specs.declared.stops.SafeStop.{SafeStop}
use Rattle.erm_world.specs.declared.stops.SafeStop.TheVariants as stop
use Rattle.erm_world.specs.Safe.{DidNotSafe, DidSafeRead, HasSnapshot}
use Rattle.erm_world.specs.World.{View, phase_at}
use Rattle.erm_world.specs.World as world
use Rattle.erm_table_world.specs.Stands.{StandsAt}
use Rattle.erm_table_world.proofs.Reading.{same_world}
use Rattle.erm_table_world.proofs.SafeShows.{same_shows, tasked}
use Rattle.erm_table_world.proofs.Still.{Stayed, went_ran, went_stayed}
use Rattle.erm_table_world.proofs.Surveying.{begin_shown, unsafe_shows, waits_show}
use Rattle.erm_table_world.proofs.Wholly.{Ran, part_is}

-- WHERE A SESSION STANDS, by its stage
pub record Pends (x : Part) : Type 0 where
  pub active : is_active x.place ≡ true
  pub next : ℕ
  pub looks : x.task ≡ task.Surveys next

pub pending_of : (g : Stage) (x : Part) → StageIs g x → phase_of g ≡ phase.Pending → Pends x
pending_of (stage.Pending begin next) x is e = record { active = is.0; next = next; looks = is.1 }
pending_of (stage.Safe begin) x is e = absurd (cc)
pending_of stage.Idle x is e = absurd (cc)
pending_of (stage.Active t) x is e = absurd (cc)
pending_of (stage.Sealed t) x is e = absurd (cc)

pub record IsAtRest (x : Part) : Type 0 where
  pub active : is_active x.place ≡ true
  pub safe : is_safe x.task ≡ true

pub safe_of : (g : Stage) (x : Part) → StageIs g x → phase_of g ≡ phase.Safe → IsAtRest x
safe_of (stage.Safe begin) x is e = record { active = is.0; safe = rests_is_safe x.task is.1 }
safe_of (stage.Pending begin next) x is e = absurd (cc)
safe_of stage.Idle x is e = absurd (cc)
safe_of (stage.Active t) x is e = absurd (cc)
safe_of (stage.Sealed t) x is e = absurd (cc)

pub snapshot_active : (g : Stage) (x : Part) → StageIs g x → IsSnapshotPhase (phase_of g) → is_active x.place ≡ true
snapshot_active (stage.Pending begin next) x is e = is.0
snapshot_active (stage.Safe begin) x is e = is.0
snapshot_active stage.Idle x is e = absurd e
snapshot_active (stage.Active t) x is e = absurd e
snapshot_active (stage.Sealed t) x is e = absurd e

either_snapshot : (b : Bool) → IsSnapshotPhase (if b then phase.Safe else phase.Pending)
either_snapshot true = tt
either_snapshot false = tt

-- a session that has a snapshot in the world is in a phase of one
pub snapshot_phase : (v : View) (seat : ℕ) → HasSnapshot v seat → IsSnapshotPhase (phase_at v seat)
snapshot_phase v seat has = subst IsSnapshotPhase (sym (ap world.phase_of has.1)) (either_snapshot has.0.is_safe)

-- a look that stops
pub not_safe_shows : (law : Law) (sessions seat : ℕ) (b : Book) → StandsAt law sessions b → is_session seat ≡ true → is_seat seat ≡ true → Pends ((core_of b).seats seat) → (why : SafeStop) (e : Book)
    → session.DidNotSafe b.view seat why e.view → TookNoSafe law seat why b e → DidNotSafe (view_of sessions (core_of b)) seat why (view_of sessions (core_of e))
not_safe_shows law sessions seat b at one seated pends (stop.NotYet other seen) e did took = waits_show law sessions seat b at one seated pends.active pends.next pends.looks other seen e did took
not_safe_shows law sessions seat b at one seated pends (stop.Unsafe other stamp) e did took = unsafe_shows law sessions seat b at one seated pends.active pends.next pends.looks other stamp e took

-- the law of safe rows
abbrev pub SafeRows : Type 0
SafeRows = (c : Core) (p : ℕ) (version : VersionAt) (row : List ℕ) → Sound c → is_safe (c.seats p).task ≡ true → version.oid < OID_LIMIT
    → IsSafeRow (c.seats p).current.begin version row c
    → IsNewestBelow (machine.history_of c.seats) (opening_rows c.shared) version.oid (c.seats p).current.begin (stamp_of c version) row

module _ (law : Law) (sessions seat : ℕ) (b e : Book) (at : StandsAt law sessions b) (one : is_session seat ≡ true) (seated : is_seat seat ≡ true)
    (active : is_active ((core_of b).seats seat).place ≡ true) (safe : is_safe ((core_of b).seats seat).task ≡ true) (oid : ℕ) (row : List ℕ)
    (loads : Went law seat IsLoadStep b e) (did : DidReadSafe b seat oid row e) where
  abbrev v : View
  v = view_of sessions (core_of b)

  abbrev x : Part
  x = (core_of b).seats seat

  abbrev d : Core
  d = core_of e

  pub read_ran : Ran law sessions seat b e
  read_ran = went_ran law sessions seat IsLoadStep b e loads at.state

  pub read_stayed : Stayed sessions seat (core_of b) d
  read_stayed = went_stayed law sessions seat b e (loads_still law seat b e loads) at.state

  set : d.seats seat ≡ with_task (task.SafeFound did.version) x
  set = tasked law sessions seat b e (task.SafeFound did.version) at.state read_ran seated did.view_is

  pub read_same : view_of sessions d ≡ v
  read_same =
      same_world law sessions seat b e (no_flusher seat one) read_ran read_stayed
      (ap session_of set ∙ same_shows x (task.SafeFound did.version) active (safe_snapshot x.task safe) refl (sym safe))

  own_part : part_of b.view seat ≡ x
  own_part = part_is law b seat at.state seated

  begin_same : (d.seats seat).current.begin ≡ x.current.begin
  begin_same = ap (λ (z : Part). z.current.begin) set

  -- in the one state of the book the version is the newest below the begin stamp, and has that row
  found : IsSafeRow (d.seats seat).current.begin did.version row d
  found =
      subst (λ (n : ℕ). IsSafeRow n did.version row d) (ap (λ (z : Part). z.current.begin) own_part ∙ sym begin_same)
      (subst (IsSafeRow (part_of b.view seat).current.begin did.version row) (one_state e did.state.0 read_ran.state.whole did.state.1.course) (did.stands did.state.0 did.state.1))

  pub read_row : SafeRows → IsQuiet sessions d → oid < OID_LIMIT → DidSafeRead v seat oid row
  read_row rows quiet within =
      let sound = read_ran.state.sound.sound in
      let known : did.version.oid < OID_LIMIT = subst (λ (n : ℕ). n < OID_LIMIT) (sym did.oid_is) within in
      let newest = rows d seat did.version row sound (ap (λ (z : Part). is_safe z.task) set) known found in
      let here : IsNewestBelow (world.history_of (view_of sessions d)) (view_of sessions d).opening.rows oid x.current.begin (stamp_of d did.version) row =
      subst (λ (h : History). IsNewestBelow h (opening_rows d.shared) oid x.current.begin (stamp_of d did.version) row) (sym (has_the_history sessions d sound quiet))
      (subst (λ (n : ℕ). IsNewestBelow (machine.history_of d.seats) (opening_rows d.shared) n x.current.begin (stamp_of d did.version) row) did.oid_is
      (subst (λ (n : ℕ). IsNewestBelow (machine.history_of d.seats) (opening_rows d.shared) did.version.oid n (stamp_of d did.version) row) begin_same newest))
      in (
        stamp_of d did.version,
        subst (λ (n : ℕ). IsNewestBelow (world.history_of v) v.opening.rows oid n (stamp_of d did.version) row) (sym (begin_shown sessions seat (core_of b) active))
            (subst (λ (u : View). IsNewestBelow (world.history_of u) u.opening.rows oid x.current.begin (stamp_of d did.version) row) read_same here),
      )
