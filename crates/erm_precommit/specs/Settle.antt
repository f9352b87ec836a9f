-- What a settle does to the seat's part, what it waits for, and what it answers.
use Rattle.std.specs.Int.{bit_at}
use Rattle.std.specs.Prelude.{◌≡◌, ◌≢◌, ℕ, ◌<◌, ◌≤◌, ◌⊎◌, true, false, not, Bool, ◌&&◌, ◌==◌, if◌then◌else◌, List, length, slice_index}
use Rattle.erm_model.specs.History.{IsSuccessorStamp, IsPredecessorStamp}
use Rattle.erm_machine.specs.declared.part.Part.{Part}
use Rattle.erm_machine.specs.declared.task.Task.{Task}
use Rattle.erm_machine.specs.declared.task.Task.TheVariants as task
use Rattle.erm_machine.specs.declared.version.VersionAt.{VersionAt}
use Rattle.erm_machine.specs.Core.{Core, claim_at, version_at}
use Rattle.erm_machine.specs.Decided.{history_of, record_of}
use Rattle.erm_machine.specs.Seat.{is_sealed, read_at}
use Rattle.erm_machine.specs.Settling.{has_room, may_settle}
use Rattle.erm_machine.specs.Sound.{Sound}
use Rattle.erm_machine.specs.Words.{head_of, is_clear, owner_of}
use Rattle.erm_rule.specs.declared.view.Book.{Book}
use Rattle.erm_rule.specs.declared.view.View.{View}
use Rattle.erm_rule.specs.Books.{WasFlushed, WasState}
use Rattle.erm_rule.specs.Hands.{IsKnown}
use Rattle.erm_rule.specs.Views.{part_of, with_part, IsView}
use Rattle.erm_seats.specs.Calls.{FindsState}
use Rattle.erm_precommit.specs.declared.answer.SeatWait.{SeatWait}
use Rattle.erm_precommit.specs.declared.answer.Settled.{Settled}
use Rattle.erm_precommit.specs.declared.answer.Settled.TheVariants as settled
use Rattle.erm_precommit.specs.declared.answer.Wait.{Wait}
use Rattle.erm_precommit.specs.declared.answer.Wait.TheVariants as wait
use Rattle.erm_precommit.specs.declared.pre.Pre.{Pre}
use Rattle.erm_precommit.specs.Pre.{IsPre}

-- the task of the seat's call in progress
abbrev pub task_of : View → ℕ → Task
task_of v who = (part_of v who).task

-- the version read, or overwritten, at a place of the seat's transaction
abbrev pub version_read : View → ℕ → ℕ → VersionAt
version_read v who place = (read_at (part_of v who).current place).version

abbrev pub version_overwritten : View → ℕ → ℕ → VersionAt
version_overwritten v who place = (claim_at (part_of v who).current place).version

-- the part of a seat whose settle has come to this task, with these running numbers and notes of looks
abbrev pub reached_part : Task → (succ from pred : ℕ) → List ℕ → Part → Part
reached_part t succ from pred notes x =
    record x { task = t; clear = notes; current = record x.current { succ = succ; succ_from = from; pred = pred } }

-- A settle went on: nothing of the pass's view is changed but the seat's task, its running numbers, and what its looks have noted
-- besides.
pub record WentOn (v : View) (who : ℕ) (w : View) : Type 0 where
  pub task : Task
  pub succ : ℕ
  pub from : ℕ
  pub pred : ℕ
  pub notes : List ℕ
  pub view_is : w ≡ with_part who (reached_part task succ from pred notes (part_of v who)) v
  pub noted : (q : ℕ) → slice_index (part_of v who).clear q ≤ slice_index notes q

-- The seat's transaction is sealed and is the one kept, a settle may begin or begin anew, and the view is one of a sound state.
pub record Stands (pre : Pre) (v : View) (who : ℕ) : Type 0 where
  pub sealed : is_sealed (part_of v who).place ≡ true
  pub may : may_settle (task_of v who) ≡ true
  pub kept : IsPre pre (part_of v who)
  pub known : IsKnown v

-- another seat owns the entry, whose head is this cell
abbrev pub has_other_owner : ℕ → ℕ → ℕ → Bool
has_other_owner entry cell who = (head_of entry == cell) && not (owner_of entry == 0) && not (owner_of entry == who)

-- the task once the readers of a version overwritten are loaded that are left to be looked at
abbrev pub readers_task : ℕ → ℕ → Task
readers_task write bits = if bits == 0 then task.WriteClear write else task.ReadersLeft write bits

-- In some sound state that the settle came through, the version read at a place was its object's head, and the seat owned the entry.
pub record OwnsRead (v : View) (who place seat : ℕ) : Type 0 where
  pub within : place < length (part_of v who).current.reads
  pub came : View
  pub went : WentOn v who came
  pub core : Core
  pub sound : Sound core
  pub is_view : IsView came core
  pub head_is : head_of (core.shared.objects (version_read v who place).oid).entry ≡ (version_read v who place).cell
  pub owner_is : owner_of (core.shared.objects (version_read v who place).oid).entry ≡ seat

-- In some sound state that the settle came through, the seat's bit stood among the readers of the version overwritten at a place.
pub record HasRead (v : View) (who place seat : ℕ) : Type 0 where
  pub within : place < length (part_of v who).current.writes
  pub came : View
  pub went : WentOn v who came
  pub core : Core
  pub sound : Sound core
  pub is_view : IsView came core
  pub bit_is : bit_at (version_at (core.shared.objects (version_overwritten v who place).oid) (version_overwritten v who place).place).words.readers seat ≡ 1

-- A look found another seat's state word to be 1, or a stamp below the own one. It changed nothing.
pub record IsSealedBelow (v : View) (who seat seen : ℕ) (w : View) : Type 0 where
  pub another : seat ≢ who
  pub finds : FindsState v seat seen
  pub unclear : is_clear seen (part_of v who).current.stamp ≡ false
  pub same : w ≡ v

-- The settle stands at a version read, whose entry the seat owned.
pub record WaitsForOwner (v : View) (who seat : ℕ) (w : View) : Type 0 where
  pub place : ℕ
  pub owns : OwnsRead v who place seat
  pub at : task_of w who ≡ task.ReadOwned place seat

-- The settle stands at the readers of a version overwritten, and the seat is one of those that are left to be looked at.
pub record WaitsForReader (v : View) (who seat : ℕ) (w : View) : Type 0 where
  pub place : ℕ
  pub bits : ℕ
  pub has : HasRead v who place seat
  pub at : task_of w who ≡ task.ReadersLeft place bits
  pub left : bit_at bits seat ≡ 1

-- A settle waits for another seat, which owned the entry of a version read or was registered as a reader of a version
-- overwritten: the state word that was found of it was 1, or a stamp below the own one.
pub record WaitsForSeat (v : View) (who seat seen : ℕ) (w : View) : Type 0 where
  pub another : seat ≢ who
  pub cause : WaitsForOwner v who seat w ⊎ WaitsForReader v who seat w
  pub finds : FindsState w seat seen
  pub unclear : is_clear seen (part_of v who).current.stamp ≡ false

-- A settle waits for the flusher: the place flushed that was found leaves no room in the ring for the block, and all is as before.
pub record WaitsForRing (v : View) (who flushed : ℕ) (w : View) : Type 0 where
  pub core : Core
  pub sound : Sound core
  pub is_view : IsView v core
  pub flushed_is : core.shared.flushed ≡ flushed
  pub full : has_room flushed (part_of v who).current ≡ false
  pub same : w ≡ v

-- for whom, or for what, a settle waits
abbrev pub WaitsFor : View → ℕ → Wait → View → Type 0
WaitsFor v who (wait.Ring flushed) w = WaitsForRing v who flushed w
WaitsFor v who (wait.Seat seat seen) w = WaitsForSeat v who seat seen w

-- What a settle waits for was met between two books: the place flushed, or the seat's state word.
abbrev pub WasWait : Book → Wait → Book → Type 0
WasWait b (wait.Ring flushed) e = WasFlushed b flushed e
WasWait b (wait.Seat seat seen) e = WasState b seat seen e

-- a look at this seat found it sealing, or sealed below the own stamp
abbrev pub StopsAt : View → ℕ → ℕ → SeatWait → View → Type 0
StopsAt v who other wait w = (wait.seat ≡ other) × IsSealedBelow v who wait.seat wait.seen w

-- the ends of the exclusion window that the definitions give a seat's current transaction, by the commits of the state
pub record HasWindow (c : Core) (who succ pred : ℕ) : Type 0 where
  pub succ_is : (c.seats who).current.succ ≡ succ
  pub pred_is : (c.seats who).current.pred ≡ pred
  pub successor : IsSuccessorStamp (history_of c.seats) (λ u. u.succ) (record_of who (c.seats who).current)
  pub predecessor : IsPredecessorStamp (history_of c.seats) pred (record_of who (c.seats who).current)

-- All versions are passed, and in every sound state with the view's parts the numbers are those that the definitions give the
-- transaction.
pub record IsReady (v : View) (who succ pred : ℕ) : Type 0 where
  pub task_is : task_of v who ≡ task.Settles (length (part_of v who).current.reads) (length (part_of v who).current.writes)
  pub window : (c : Core) → Sound c → IsView v c → HasWindow c who succ pred

-- what a settle answers
abbrev pub DidSettle : View → ℕ → Settled → View → Type 0
DidSettle v who (settled.Ready succ pred) w = IsReady w who succ pred
DidSettle v who (settled.Wait reason) w = WaitsFor v who reason w
