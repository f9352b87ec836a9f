-- A session as it keeps itself beside its pass, and as the machine has its seat.
use Rattle.std.specs.Prelude.{◌≡◌, ◌≤◌, Bool, true, false, ◌&&◌, nat_le, nat_lt, length, map, Option, None, vec_capacity}
use Rattle.erm_block.specs.declared.block.TheConstants.{BLOCK_WORDS}
use Rattle.erm_cells.specs.Calls.{starts_anew}
use Rattle.erm_cells.specs.Spare.{SpareIs}
use Rattle.erm_machine.specs.declared.attempt.Attempt.{Attempt}
use Rattle.erm_machine.specs.declared.attempt.Claim.{Claim}
use Rattle.erm_machine.specs.declared.attempt.Read.{Read}
use Rattle.erm_machine.specs.declared.limits.TheConstants.{READ_LIMIT, WRITE_LIMIT}
use Rattle.erm_machine.specs.declared.part.Part.{Part}
use Rattle.erm_machine.specs.declared.place.Place.TheVariants as place
use Rattle.erm_machine.specs.declared.task.Task.{Task}
use Rattle.erm_machine.specs.declared.task.Task.TheVariants as task
use Rattle.erm_machine.specs.Seat.{is_active, is_sealed}
use Rattle.erm_machine.specs.Settling.{may_settle}
use Rattle.erm_machine.specs.Words.{is_session}
use Rattle.erm_model.specs.declared.limits.TheConstants.{LAST_RUN}
use Rattle.erm_model.specs.declared.outcome.Phase.{Phase}
use Rattle.erm_model.specs.declared.outcome.Phase.TheVariants as phase
use Rattle.erm_precommit.specs.Pre.{IsPre}
use Rattle.erm_record.specs.Stored.{block_words}
use Rattle.erm_rows.specs.Active.{IsActive}
use Rattle.erm_session.specs.declared.room.Room.{Room}
use Rattle.erm_session.specs.declared.session.Session.{Session}
use Rattle.erm_session.specs.declared.session.Stage.{Stage}
use Rattle.erm_session.specs.declared.session.Stage.TheVariants as stage
use Rattle.erm_session.specs.Saves.{HasSaves}

-- the phase of a session
abbrev pub phase_of : Stage → Phase
phase_of stage.Idle = phase.Idle
phase_of (stage.Active t) = phase.Active
phase_of (stage.Sealed t) = phase.Sealed
phase_of (stage.Pending begin next) = phase.Pending
phase_of (stage.Safe begin) = phase.Safe

-- a safe snapshot between two calls: it has read nothing yet, or has found a version
abbrev pub rests_safe : Task → Bool
rests_safe task.Safe = true
rests_safe (task.SafeFound version) = true
rests_safe _ = false

-- The seat stands there too, and the transaction kept is its current one, the last begun; the range of a sealed one has the size of its
-- block. Of a snapshot the begin stamp is kept, and, until it is safe, the session to which its look has come.
abbrev pub StageIs : Stage → Part → Type 0
StageIs stage.Idle x = x.place ≡ place.Idle
StageIs (stage.Active t) x = (is_active x.place ≡ true) × (starts_anew x.task ≡ true) × IsActive t x × (x.current.number ≡ x.number)
StageIs (stage.Sealed t) x =
    (is_sealed x.place ≡ true) × (may_settle x.task ≡ true) × IsPre t x × (x.current.number ≡ x.number)
    × (x.current.size ≡ block_words (map (λ (w : Claim). w.row) x.current.writes))
StageIs (stage.Pending begin next) x =
    (is_active x.place ≡ true) × (x.task ≡ task.Surveys next) × (is_session next ≡ true) × (x.current.begin ≡ begin) × (x.current.number ≡ x.number)
StageIs (stage.Safe begin) x = (is_active x.place ≡ true) × (rests_safe x.task ≡ true) × (x.current.begin ≡ begin) × (x.current.number ≡ x.number)

-- an idle session has the room of its next transaction, and so has one with a snapshot, which takes none
abbrev pub HasRoom : Stage → Option Room → Type 0
HasRoom stage.Idle None = ⊥
HasRoom (stage.Pending begin next) None = ⊥
HasRoom (stage.Safe begin) None = ⊥
HasRoom g room = Unit {0}

-- What the session keeps is its seat's, but for the rows, for which there is room.
pub record IsKept (s : Session) (x : Part) : Type 0 where
  pub session : is_session s.seat ≡ true
  pub run : s.run ≡ x.run
  pub low : s.run ≤ LAST_RUN
  pub number : s.number ≡ x.number
  pub stage : StageIs s.stage x
  pub room : HasRoom s.stage s.room
  pub spare : SpareIs s.spare x
  pub room_read : READ_LIMIT ≤ vec_capacity s.rows_read
  pub room_claimed : WRITE_LIMIT ≤ vec_capacity s.rows_claimed
  pub block : length s.block.items ≡ BLOCK_WORDS

-- the exclusion window known so far is closed
abbrev pub has_closed : Attempt → Bool
has_closed t = nat_lt 0 t.succ && nat_le t.succ t.pred

-- that of an active transaction isn't
abbrev pub IsOpen : Stage → Part → Type 0
IsOpen (stage.Active t) x = has_closed x.current ≡ false
IsOpen g x = Unit {0}

-- What the session keeps is its seat's, and the rows kept are those that the transaction has read, and those of its claims. The exclusion
-- window known so far of an active one is open, and what is kept of its savepoints is so.
pub record IsSession (s : Session) (x : Part) : Type 0 where
  pub kept : IsKept s x
  pub rows_read : s.rows_read.items ≡ map (λ (r : Read). r.row) x.current.reads
  pub rows_claimed : s.rows_claimed.items ≡ map (λ (w : Claim). w.row) x.current.writes
  pub window : IsOpen s.stage x
  pub saves : HasSaves s.stage s.saves x
