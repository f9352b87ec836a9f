-- The way to a version of an object: how far a seat has come, and whom it may meet.
use Rattle.std.specs.Prelude.{◌≡◌, ◌≢◌, ℕ, ◌+◌, ◌*◌, true, false, ◌&&◌, nat_lt, nat_le, if◌then◌else◌, List, [], Option, Some, None}
use Rattle.erm_model.specs.declared.history.VersionWritten.{VersionWritten}
use Rattle.erm_model.specs.declared.row_stop.RowStop.{RowStop}
use Rattle.erm_model.specs.declared.row_stop.RowStop.TheVariants as stop
use Rattle.erm_machine.specs.declared.attempt.Attempt.{Attempt}
use Rattle.erm_machine.specs.declared.event.Kind.{Kind}
use Rattle.erm_machine.specs.declared.event.Kind.TheVariants as kind
use Rattle.erm_machine.specs.declared.task.Task.{Task}
use Rattle.erm_machine.specs.declared.task.Task.TheVariants as task
use Rattle.erm_machine.specs.declared.version.CellWord.TheVariants as word
use Rattle.erm_machine.specs.declared.version.VersionAt.{VersionAt}
use Rattle.erm_machine.specs.Core.{Core}
use Rattle.erm_machine.specs.Seat.{is_active, is_snapshot}
use Rattle.erm_machine.specs.Words.{is_clear, is_session, state_of}
use Rattle.erm_core_view.specs.Views.{view_of}
use Rattle.erm_world.specs.Calls.{DidAbort, IsClearOf, IsShut, Works}
use Rattle.erm_world.specs.World.{View, work_at}
use Rattle.erm_world.specs.Works.{is_claimed, own_row, reading}
use Rattle.erm_core_steps.specs.Steps.{IsUnseen}

-- a session's transaction is active
pub record IsAtWork (seat : ℕ) (c : Core) : Type 0 where
  pub session : is_session seat ≡ true
  pub active : is_active (c.seats seat).place ≡ true
  pub plain : is_snapshot (c.seats seat).task ≡ false

-- it is at work, and its steps since then don't show
pub record GoesOn (sessions seat : ℕ) (c d : Core) : Type 0 where
  pub unseen : IsUnseen sessions seat c d
  pub at : IsAtWork seat d

-- loads of a read, of a claim before its exchange, and of a settle that passes versions
abbrev pub IsLoad : Kind → Type 0
IsLoad (kind.LoadState other bound) = Unit {0}
IsLoad (kind.LoadEntry oid) = Unit {0}
IsLoad (kind.LoadCell version w) = Unit {0}
IsLoad (kind.LoadStamp version w) = Unit {0}
IsLoad (kind.LoadReaders version) = Unit {0}
IsLoad k = ⊥

-- the part of a read: the way to a version of an object, the rating of the one that is registered, or neither
pub data Stage : Type 0 where
  finds : ℕ → Stage
  rates : Stage
  elsewhere : Stage

abbrev pub stage_of : Task → Stage
stage_of (task.Walks version head) = finds version.oid
stage_of (task.Passed version) = finds version.oid
stage_of (task.Found version stamp head) = finds version.oid
stage_of (task.Registered version) = rates
stage_of (task.Overtaken version overwriter) = rates
stage_of (task.Rated version) = rates
stage_of t = elsewhere

-- the next step of that part, if it isn't done
abbrev pub read_step : Task → Option Kind
read_step (task.Walks version head) = Some (kind.LoadCell version word.Stamp)
read_step (task.Passed version) = Some (kind.LoadCell version word.Link)
read_step (task.Registered version) = Some (kind.LoadStamp version word.Overwriter)
read_step (task.Overtaken version overwriter) = Some (kind.LoadStamp version word.OverwriterSucc)
read_step t = None

-- how many steps of it are left at most
abbrev pub steps_left : Task → ℕ
steps_left (task.Walks version head) = 2 * version.place + 2
steps_left (task.Passed version) = 2 * version.place + 1
steps_left (task.Registered version) = 2
steps_left (task.Overtaken version overwriter) = 1
steps_left t = 0

-- the name of no version
abbrev pub no_version : VersionAt
no_version = record { oid = 0; place = 0; cell = 0 }

-- the version in hand
abbrev pub in_hand : Task → VersionAt
in_hand (task.Walks version head) = version
in_hand (task.Passed version) = version
in_hand (task.Found version stamp head) = version
in_hand (task.Registered version) = version
in_hand (task.Overtaken version overwriter) = version
in_hand (task.Rated version) = version
in_hand t = no_version

-- the object's owner isn't clear, as a look found it
abbrev pub IsWaiting : Core → ℕ → ℕ → RowStop → Type 0
IsWaiting c seat owner (stop.NotYet other seen) =
    (other ≡ owner) × (seen ≡ state_of (c.seats owner).place) × (is_clear seen (c.seats seat).current.begin ≡ false)
IsWaiting c seat owner why = ⊥

-- the running successor and predecessor stamp, where they exclude the transaction
abbrev pub closed_window : Attempt → Option (ℕ × ℕ)
closed_window t = if nat_lt 0 t.succ && nat_le t.succ t.pred then Some (t.succ, t.pred) else None

-- the version found is registered, with this row
pub record HasRegistered (sessions seat oid : ℕ) (row : List ℕ) (c d : Core) : Type 0 where
  pub others : (q : ℕ) → q ≢ seat → d.seats q ≡ c.seats q
  pub stamp : ℕ
  pub shows : Works (view_of sessions c) seat (reading (record { oid = oid; stamp = stamp; row = row }) (work_at (view_of sessions c) seat)) (view_of sessions d)
  pub at : IsAtWork seat d
  pub rated_next : stage_of (d.seats seat).task ≡ rates

-- a version of the object is read, which nobody who is sealed below the begin stamp overwrites
pub record DidRegister (v : View) (seat oid : ℕ) (row : List ℕ) (t : View) : Type 0 where
  pub stamp : ℕ
  pub shows : Works v seat (reading (record { oid = oid; stamp = stamp; row = row }) (work_at v seat)) t
  pub clear : IsClearOf v seat oid (work_at v seat).begin

-- the transaction has ended, since its running window is closed
abbrev pub IsExcluded : View → ℕ → View → RowStop → Type 0
IsExcluded v seat t (stop.Excluded succ pred) = DidAbort v seat t × IsShut v seat (work_at v seat) succ pred
IsExcluded v seat t why = ⊥

-- the object is claimed, and this is its row
pub record HasOwnRow (claims : List VersionWritten) (oid : ℕ) (row : List ℕ) : Type 0 where
  pub claimed : is_claimed claims oid ≡ true
  pub is : own_row claims oid [] ≡ row
