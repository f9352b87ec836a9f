-- Sessions that have run, and the world in which all have ended.
use Rattle.std.specs.Prelude.{◌≡◌, ◌≢◌, ℕ, ◌+◌, ◌<◌, ◌≤◌, List, length, slice_get, Some}
use Rattle.atomic_table.specs.declared.shared.Seat.{Seat}
use Rattle.atomic_table.specs.Seated.{TableId}
use Rattle.erm_model.specs.declared.limits.TheConstants.{SESSIONS}
use Rattle.erm_model.specs.declared.outcome.Phase.TheVariants as Phase
use Rattle.erm_model.specs.declared.outcome.Phase.TheVariants.{Active}
use Rattle.erm_model.specs.RowTransaction.{Law}
use Rattle.erm_model.specs.Member.{◌∈◌}
use Rattle.erm_machine.specs.declared.limits.TheConstants.{FLUSH_SEAT}
use Rattle.erm_machine.specs.declared.place.Place.TheVariants.{Idle}
use Rattle.erm_machine.specs.Core.{Core, fresh_part}
use Rattle.erm_rule.specs.declared.rule.Table.{Table}
use Rattle.erm_rule.specs.declared.view.Book.{Book}
use Rattle.erm_rule.specs.declared.view.Held.{Held}
use Rattle.erm_rule.specs.declared.view.Opening.{Opening}
use Rattle.erm_rule.specs.Books.{IsBookOf, book, past_of}
use Rattle.erm_rule.specs.Steps.{Fits}
use Rattle.erm_rule.specs.Views.{EachOnce, MayJoin, one_seat, view}
use Rattle.erm_shared_session.specs.declared.session.TableSession.{TableSession}
use Rattle.erm_shared_session.specs.Stands.{Stands, own_of, seat_of}
use Rattle.erm_world.specs.World.{phase_at}
use Rattle.erm_engine.specs.Ended.{HasClosed, HasEnded, IsUntouched, world_of}

-- each may be called on the table, and they stand in the order of their seats, from 1 on
abbrev pub AreDone : {L : Type 0} → Law → Table L → List (TableSession L) → Type 0
AreDone {L} law table ss = (k : ℕ) (s : TableSession L) → slice_get ss k ≡ Some s → Stands law table s × (seat_of s ≡ k + 1)

-- none has a transaction in progress
abbrev pub AllRest : {L : Type 0} → List (TableSession L) → Type 0
AllRest {L} ss = (k : ℕ) (s : TableSession L) → slice_get ss k ≡ Some s → phase_at (own_of s) (seat_of s) ≡ Active → ⊥

-- all are idle
abbrev pub AllIdle : {L : Type 0} → List (TableSession L) → Type 0
AllIdle {L} ss = (k : ℕ) (s : TableSession L) → slice_get ss k ≡ Some s → phase_at (own_of s) (seat_of s) ≡ Phase.Idle

-- each is one of the table's passes, and may be taken in
abbrev pub MayBeTaken : TableId → List (Seat (Unit {0}) Book) → Type 0
MayBeTaken table ps = (k : ℕ) (p : Seat (Unit {0}) Book) → slice_get ps k ≡ Some p → Fits table p × MayJoin (view p)

-- The book keeps another, which was taken in, as it was then; and where each of its seats stands once, it has the sessions of that one as they were there.
pub record HasIn (m e : Book) : Type 0 where
  pub past : past_of m ∈ e.past
  pub seats : EachOnce e.view.held → (h : Held) → h ∈ m.view.held → h.seat ≢ FLUSH_SEAT → h ∈ e.view.held

-- it has taken in the book of a pass that had this session alone, in which nothing was done
pub record HasIdle (seat : ℕ) (e : Book) : Type 0 where
  pub idle : Book
  pub run : ℕ
  pub place : ℕ
  pub view_is : idle.view ≡ one_seat seat (fresh_part Idle run place)
  pub has : HasIn idle e

-- THE PASS OF ALL SEATS. Its book has taken in those of these sessions, each of which may be called, and of the sessions behind them, in which nothing was
-- done.
pub record AreJoined {L : Type 0} (law : Law) (table : Table L) (ss : List (TableSession L)) (e : Book) : Type 0 where
  pub done : AreDone law table ss
  pub sessions : (k : ℕ) (s : TableSession L) → slice_get ss k ≡ Some s → HasIn (book s.pass) e
  pub idle : (seat : ℕ) → length ss < seat → seat ≤ SESSIONS → HasIdle seat e

-- THE END. There is one state in which the table of this opening was closed, and each session has ended in the world that it shows. Nothing was done in
-- the sessions behind these.
pub record HaveEnded {L : Type 0} (law : Law) (o : Opening) (ss : List (TableSession L)) (flush : Book) (tail : ℕ) : Type 0 where
  pub core : Core
  pub closed : HasClosed law o flush tail core
  pub each : (k : ℕ) (s : TableSession L) → slice_get ss k ≡ Some s → HasEnded law (seat_of s) (book s.pass) (own_of s) (world_of core)
  pub others : (seat : ℕ) → length ss < seat → seat ≤ SESSIONS → IsUntouched seat (world_of core)

-- so it has, in a state of the book of the pass that closed it, each seat of which stands once
pub record HaveClosed {L : Type 0} (law : Law) (o : Opening) (ss : List (TableSession L)) (e : Book) (tail : ℕ) : Type 0 where
  pub ended : HaveEnded law o ss e tail
  pub is : IsBookOf e ended.core
  pub once : EachOnce e.view.held

-- so it has, whichever sessions the pass has taken in
abbrev pub ClosesJoined : {L : Type 0} → Law → Table L → Opening → Book → ℕ → Type 0
ClosesJoined {L} law table o e tail = (ss : List (TableSession L)) → AreJoined law table ss e → HaveClosed law o ss e tail
