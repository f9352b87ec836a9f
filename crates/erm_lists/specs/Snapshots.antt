-- Snapshots that only read: how far a seat has come with one, and what its looks and its reads leave.
use Rattle.std.specs.Prelude.{◌≡◌, ◌≢◌, ℕ, ◌+◌, ◌*◌, ◌<◌, Bool, true, false, ◌||◌, ◌==◌, nat_le, List, Option, Some, None}
use Rattle.erm_machine.specs.declared.event.Kind.{Kind}
use Rattle.erm_machine.specs.declared.event.Kind.TheVariants as kind
use Rattle.erm_machine.specs.declared.task.Task.{Task}
use Rattle.erm_machine.specs.declared.task.Task.TheVariants as task
use Rattle.erm_machine.specs.declared.version.CellWord.TheVariants as word
use Rattle.erm_machine.specs.declared.version.VersionAt.{VersionAt}
use Rattle.erm_machine.specs.Core.{Core, version_at}
use Rattle.erm_machine.specs.Life.{after_passed}
use Rattle.erm_machine.specs.Seat.{is_active, is_new, is_safe, is_snapshot, with_task}
use Rattle.erm_machine.specs.Words.{is_session}
use Rattle.erm_core_steps.specs.Reads.{no_version}

-- a session's transaction has just begun, at this place of the log
pub record HasJustBegun (seat begin : ℕ) (c : Core) : Type 0 where
  pub session : is_session seat ≡ true
  pub active : is_active (c.seats seat).place ≡ true
  pub rests : (c.seats seat).task ≡ task.Rest
  pub fresh : is_new (c.seats seat).current ≡ true
  pub begin_is : (c.seats seat).current.begin ≡ begin
  pub positive : 0 < begin

-- a session has a snapshot, safe or not
pub record IsPendingOrSafe (seat : ℕ) (c : Core) : Type 0 where
  pub session : is_session seat ≡ true
  pub active : is_active (c.seats seat).place ≡ true
  pub snapshot : is_snapshot (c.seats seat).task ≡ true

-- it has one that is safe
pub record IsSafeReader (seat : ℕ) (c : Core) : Type 0 where
  pub session : is_session seat ≡ true
  pub active : is_active (c.seats seat).place ≡ true
  pub safe : is_safe (c.seats seat).task ≡ true

-- The seat has only loaded words: nothing but its task has changed.
pub record OnlyLooks (seat : ℕ) (c d : Core) : Type 0 where
  pub others : (q : ℕ) → q ≢ seat → d.seats q ≡ c.seats q
  pub shared : d.shared ≡ c.shared
  pub own : d.seats seat ≡ with_task (d.seats seat).task (c.seats seat)

-- SURVEY. The session that a pending snapshot has come to.
abbrev pub next_session : Task → Option ℕ
next_session (task.Surveys next) = Some next
next_session _ = None

-- a snapshot that has come to a session, or is safe, and has read nothing yet
abbrev pub is_surveying : Task → Bool
is_surveying (task.Surveys next) = true
is_surveying task.Safe = true
is_surveying _ = false

-- a session with this begin word has nothing in progress that had begun below the begin stamp
abbrev pub is_late : (begin found : ℕ) → Bool
is_late begin found = (found == 0) || nat_le begin found

-- the session is passed: the survey has come to the next one, or the snapshot is safe
pub record PassesOn (seat next : ℕ) (c d : Core) : Type 0 where
  pub looks : OnlyLooks seat c d
  pub task_is : (d.seats seat).task ≡ after_passed next

-- SAFE READ. The next step of the walk to the version that it reads, if that isn't found yet.
abbrev pub walk_step : Task → Option Kind
walk_step (task.SafeWalks version) = Some (kind.LoadCell version word.Stamp)
walk_step (task.SafePassed version) = Some (kind.LoadCell version word.Link)
walk_step t = None

-- how many steps of the walk are left at most
abbrev pub walk_left : Task → ℕ
walk_left (task.SafeWalks version) = 2 * version.place + 2
walk_left (task.SafePassed version) = 2 * version.place + 1
walk_left t = 0

-- the object of whose versions one is in hand
abbrev pub object_in_hand : Task → Option ℕ
object_in_hand (task.SafeWalks version) = Some version.oid
object_in_hand (task.SafePassed version) = Some version.oid
object_in_hand (task.SafeFound version) = Some version.oid
object_in_hand t = None

-- the version found
abbrev pub version_found : Task → VersionAt
version_found (task.SafeFound version) = version
version_found t = no_version

-- its row
abbrev pub row_found : Core → ℕ → List ℕ
row_found c seat = let v = version_found (c.seats seat).task in (version_at (c.shared.objects v.oid) v.place).words.row

abbrev pub has_found : Task → Bool
has_found (task.SafeFound version) = true
has_found t = false
