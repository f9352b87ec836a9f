-- Steps of a session, one after another: which are taken, and what they leave.
use Rattle.std.specs.Prelude.{◌≡◌, ◌≢◌, ℕ, true, length, Some}
use Rattle.erm_machine.specs.declared.event.Answer.{Answer}
use Rattle.erm_machine.specs.declared.event.Answer.TheVariants as answer
use Rattle.erm_machine.specs.declared.event.Kind.{Kind}
use Rattle.erm_machine.specs.declared.event.Kind.TheVariants as kind
use Rattle.erm_machine.specs.Core.{Core}
use Rattle.erm_machine.specs.Seat.{end_of, is_active}
use Rattle.erm_machine.specs.Step.{after_event}
use Rattle.erm_machine.specs.Words.{is_session}
use Rattle.erm_core.specs.Rooms.{ranges_in, IsOfNone}
use Rattle.erm_core_view.specs.Views.{view_of}

-- the seat's step of this kind is taken
abbrev pub IsTaken : Core → ℕ → Kind → Type 0
IsTaken c seat k = (d : Core) × (after_event c seat k ≡ Some d)

-- the word that a step found, or 0 where its answer tells none
abbrev pub found_in : Answer → ℕ
found_in (answer.Word word) = word
found_in answer.Done = 0
found_in answer.Failed = 0

-- a load of a word
abbrev pub LoadsWord : Kind → Type 0
LoadsWord (kind.LoadTail purpose) = Unit {0}
LoadsWord (kind.LoadBegin seat) = Unit {0}
LoadsWord (kind.LoadState seat bound) = Unit {0}
LoadsWord (kind.LoadEntry oid) = Unit {0}
LoadsWord (kind.LoadCell version w) = Unit {0}
LoadsWord (kind.LoadCounter counter) = Unit {0}
LoadsWord (kind.LoadReaders version) = Unit {0}
LoadsWord (kind.LoadStamp version w) = Unit {0}
LoadsWord (kind.LoadRing at) = Unit {0}
LoadsWord kind.LoadFlushed = Unit {0}
LoadsWord (kind.LoadDetached version) = Unit {0}
LoadsWord (kind.LoadBack seat) = Unit {0}
LoadsWord k = ⊥

-- kinds that meet one word, and neither draw a range nor decide
abbrev pub IsUnpromised : Kind → Type 0
IsUnpromised (kind.Split other) = ⊥
IsUnpromised (kind.Join other) = ⊥
IsUnpromised (kind.AddTail size) = ⊥
IsUnpromised (kind.Decide at header) = ⊥
IsUnpromised k = Unit {0}

-- a kind of step that needs no room and no promise of its caller, and meets one word
pub record IsFree (k : Kind) : Type 0 where
  pub one : IsUnpromised k
  pub ranges : ranges_in k ≡ 0
  pub none : IsOfNone k

-- steps of a session that the view doesn't show: the other seats stay as they were
pub record IsUnseen (sessions seat : ℕ) (c d : Core) : Type 0 where
  pub others : (q : ℕ) → q ≢ seat → d.seats q ≡ c.seats q
  pub view : view_of sessions d ≡ view_of sessions c

-- A session's transaction is active, with so many claims and reads. It ends without a range, or may begin to: so many of its
-- claims are over, and so many of its reader bits cleared.
pub record IsEnding (seat claims reads ended cleared : ℕ) (c : Core) : Type 0 where
  pub session : is_session seat ≡ true
  pub active : is_active (c.seats seat).place ≡ true
  pub come : end_of (c.seats seat).task ≡ Some (0, ended, 0, cleared)
  pub all_claims : length (c.seats seat).current.writes ≡ claims
  pub all_reads : length (c.seats seat).current.reads ≡ reads

-- how many objects the seat's transaction has claimed, and how many versions it has read
abbrev pub claims_in : Core → ℕ → ℕ
claims_in c seat = length (c.seats seat).current.writes

abbrev pub reads_in : Core → ℕ → ℕ
reads_in c seat = length (c.seats seat).current.reads

-- it may begin to end; all its claims are over; all its reader bits are cleared as well
abbrev pub MayEnd : ℕ → Core → Type 0
MayEnd seat c = IsEnding seat (claims_in c seat) (reads_in c seat) 0 0 c

abbrev pub HasReleased : ℕ → Core → Type 0
HasReleased seat c = IsEnding seat (claims_in c seat) (reads_in c seat) (claims_in c seat) 0 c

abbrev pub HasCleared : ℕ → Core → Type 0
HasCleared seat c = IsEnding seat (claims_in c seat) (reads_in c seat) (claims_in c seat) (reads_in c seat) c
