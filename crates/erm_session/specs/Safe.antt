-- What the calls of a snapshot leave of a pass's view, and why one isn't known to be safe.
use Rattle.std.specs.Prelude.{◌≡◌, ◌≤◌, ℕ, true, length, map, vec_capacity}
use Rattle.erm_block.specs.declared.block.TheConstants.{BLOCK_WORDS}
use Rattle.erm_cells.specs.Spare.{SpareIs}
use Rattle.erm_cells.specs.Took.{IsEndStep}
use Rattle.erm_ends.specs.Ends.{DidAbort}
use Rattle.erm_ends.specs.Safe.{DidEndSafe, TookEndSafe}
use Rattle.erm_machine.specs.declared.attempt.Claim.{Claim}
use Rattle.erm_machine.specs.declared.attempt.Read.{Read}
use Rattle.erm_machine.specs.declared.limits.TheConstants.{READ_LIMIT, WRITE_LIMIT}
use Rattle.erm_machine.specs.declared.part.Part.{Part}
use Rattle.erm_machine.specs.Seat.{is_active, is_snapshot}
use Rattle.erm_machine.specs.Words.{is_session}
use Rattle.erm_model.specs.declared.limits.TheConstants.{LAST_RUN}
use Rattle.erm_model.specs.declared.outcome.Phase.{Phase}
use Rattle.erm_model.specs.declared.outcome.Phase.TheVariants as phase
use Rattle.erm_model.specs.RowTransaction.{Law}
use Rattle.erm_rule.specs.declared.view.Book.{Book}
use Rattle.erm_rule.specs.declared.view.View.{View}
use Rattle.erm_rule.specs.Went.{Went}
use Rattle.erm_seats.specs.Safe.{IsUnsafeBy, TookUnsafe, TookWaitFor, WaitsFor, WasBack, WasBegin}
use Rattle.erm_session.specs.declared.session.Session.{Session}
use Rattle.erm_session.specs.declared.session.Stage.TheVariants as stage
use Rattle.erm_session.specs.Session.{HasRoom}
use Rattle.erm_world.specs.declared.stops.SafeStop.{SafeStop}
use Rattle.erm_world.specs.declared.stops.SafeStop.TheVariants as safe

-- the session has a snapshot, safe or not
abbrev pub IsSnapshotPhase : Phase → Type 0
IsSnapshotPhase phase.Pending = Unit {0}
IsSnapshotPhase phase.Safe = Unit {0}
IsSnapshotPhase p = ⊥

-- Its look found another session's back word at or above its begin stamp, and it was ended.
pub record EndsUnsafe (v : View) (who seat stamp : ℕ) (w : View) : Type 0 where
  pub between : View
  pub found : IsUnsafeBy v who seat stamp between
  pub ended : DidEndSafe between who w
  pub aborted : DidAbort between who w

-- SAFE. It waits for another session, or is over.
abbrev pub DidNotSafe : View → ℕ → SafeStop → View → Type 0
DidNotSafe v who (safe.NotYet seat seen) w = WaitsFor v who seat seen w
DidNotSafe v who (safe.Unsafe seat stamp) w = EndsUnsafe v who seat stamp w

-- the phase of its session then
abbrev pub IsStoppedPhase : SafeStop → Phase → Type 0
IsStoppedPhase (safe.NotYet seat seen) p = p ≡ phase.Pending
IsStoppedPhase (safe.Unsafe seat stamp) p = p ≡ phase.Idle

-- between the book before the call and the one after it, the word that is told was there
abbrev pub WasSafeStop : Book → SafeStop → Book → Type 0
WasSafeStop b (safe.NotYet seat seen) e = WasBegin b seat seen e
WasSafeStop b (safe.Unsafe seat stamp) e = WasBack b seat stamp e

-- The look went up to the back word that it found, which left that book, and then the snapshot was ended.
pub record TookUnsafeEnd (law : Law) (who seat stamp : ℕ) (b e : Book) : Type 0 where
  pub between : Book
  pub looks : TookUnsafe law who seat stamp b between
  pub found : IsUnsafeBy b.view who seat stamp between.view
  pub ends : Went law who IsEndStep between e
  pub took : TookEndSafe law who between e
  pub aborted : DidAbort between.view who e.view

abbrev pub TookNoSafe : Law → ℕ → SafeStop → Book → Book → Type 0
TookNoSafe law who (safe.NotYet seat seen) b e = TookWaitFor law who seat seen b e
TookNoSafe law who (safe.Unsafe seat stamp) b e = TookUnsafeEnd law who seat stamp b e

-- What the session keeps is its seat's, which has a snapshot, but for where its look stands.
pub record MayEndSafe (s : Session) (x : Part) : Type 0 where
  pub session : is_session s.seat ≡ true
  pub run : s.run ≡ x.run
  pub low : s.run ≤ LAST_RUN
  pub number : s.number ≡ x.number
  pub active : is_active x.place ≡ true
  pub snapshot : is_snapshot x.task ≡ true
  pub room : HasRoom stage.Idle s.room
  pub spare : SpareIs s.spare x
  pub room_read : READ_LIMIT ≤ vec_capacity s.rows_read
  pub room_claimed : WRITE_LIMIT ≤ vec_capacity s.rows_claimed
  pub block : length s.block.items ≡ BLOCK_WORDS
  pub rows_read : s.rows_read.items ≡ map (λ (r : Read). r.row) x.current.reads
  pub rows_claimed : s.rows_claimed.items ≡ map (λ (w : Claim). w.row) x.current.writes
