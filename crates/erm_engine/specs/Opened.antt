-- A table that was just opened, and what it hands out.
use Rattle.std.specs.Prelude.{◌≡◌, ℕ, ◌+◌, List, [], length, slice_get, Some, None}
use Rattle.atomic_table.specs.declared.shared.Seat.{Seat}
use Rattle.atomic_table.specs.Seated.{TableId}
use Rattle.erm_model.specs.declared.limits.TheConstants.{SESSIONS}
use Rattle.erm_model.specs.Rows.{rows_of}
use Rattle.erm_model.specs.RowTransaction.{Law, SameRows}
use Rattle.erm_machine.specs.declared.limits.TheConstants.{FLUSH_SEAT}
use Rattle.erm_machine.specs.declared.place.Place.TheVariants.{Idle}
use Rattle.erm_machine.specs.Core.{Core, fresh_part}
use Rattle.erm_ring.specs.Turns.{MayGather}
use Rattle.erm_rule.specs.declared.rule.Table.{Table}
use Rattle.erm_rule.specs.declared.view.Book.{Book}
use Rattle.erm_rule.specs.declared.view.Opening.{Opening}
use Rattle.erm_rule.specs.declared.view.Start.{Start}
use Rattle.erm_rule.specs.Books.{IsBookOf, book}
use Rattle.erm_rule.specs.Openings.{start_of}
use Rattle.erm_rule.specs.Steps.{Fits}
use Rattle.erm_rule.specs.Views.{MayJoin, one_seat, part_of, view}
use Rattle.erm_own_view.specs.Own.{MayCall, no_session, opening_of}
use Rattle.erm_shared_session.specs.declared.session.TableSession.{TableSession}
use Rattle.erm_shared_session.specs.Handing.{HasHandedOut}
use Rattle.erm_shared_session.specs.Stands.{Stands, own_of, seat_of}
use Rattle.erm_world.specs.Laws.{IsSerializable}
use Rattle.erm_world.specs.World.{View}
use Rattle.erm_engine.specs.declared.opening.Opened.{Opened}

-- the world of a table that was just opened, in which nothing was done
abbrev pub opened_view : Start → View
opened_view start = record {
  opening = opening_of start;
  session = λ q. no_session;
  tail = start.tail;
  flushed = start.tail;
  pinned = None;
  given_up = λ q. [];
  saves = λ q. [];
}

-- in whatever state the book is one of, the log is flushed up to where the opening begins it
abbrev pub IsUnflushed : Opening → Book → Type 0
IsUnflushed o b = (c : Core) → IsBookOf b c → c.shared.flushed ≡ o.tail

-- the first pass of a table has handed out so many sessions
pub record HasGiven (law : Law) (table : TableId) (o : Opening) (given : ℕ) (p : Seat (Unit {0}) Book) : Type 0 where
  pub fits : Fits table p
  pub handed : HasHandedOut law o given (book p)
  pub unflushed : IsUnflushed o (book p)

-- a pass that has this session's seat alone, in which nothing was done
pub record IsIdle (table : TableId) (run place seat : ℕ) (p : Seat (Unit {0}) Book) : Type 0 where
  pub fits : Fits table p
  pub view_is : view p ≡ one_seat seat (fresh_part Idle run place)

-- it was handed out, and calls of the session may begin
pub record IsGiven (law : Law) (table : TableId) (o : Opening) (seat : ℕ) (p : Seat (Unit {0}) Book) : Type 0 where
  pub idle : IsIdle table o.run o.tail seat p
  pub start : (book p).start ≡ start_of o
  pub may : MayCall law seat o.tail o.tail (book p)

-- a session that was handed out: what it knows is the world as it was opened
pub record IsNew {L : Type 0} (law : Law) (table : Table L) (o : Opening) (seat : ℕ) (s : TableSession L) : Type 0 where
  pub stands : Stands law table s
  pub seat_is : seat_of s ≡ seat
  pub own : own_of s ≡ opened_view (start_of o)

-- so many sessions that were handed out, in the order of their seats
pub record AreNew {L : Type 0} (law : Law) (table : Table L) (o : Opening) (count : ℕ) (ss : List (TableSession L)) : Type 0 where
  pub count_is : length ss ≡ count
  pub each : (k : ℕ) (s : TableSession L) → slice_get ss k ≡ Some s → IsNew law table o (k + 1) s

-- the passes of the seats behind one, up to another, in which nothing was done
pub record AreIdle (table : TableId) (run place from upto : ℕ) (ps : List (Seat (Unit {0}) Book)) : Type 0 where
  pub count_is : from + length ps ≡ upto
  pub each : (k : ℕ) (p : Seat (Unit {0}) Book) → slice_get ps k ≡ Some p → IsIdle table run place (from + k + 1) p

-- THE BEGINNING. So many sessions were handed out, and the passes of the other seats; the pass that is left has the flush seat, which has no pin, and
-- nothing was flushed. The world as it was opened is serializable, and its rows are those of the opening.
pub record IsOpened {L : Type 0} (law : Law) (o : Opening) (count : ℕ) (t : Opened L) : Type 0 where
  pub key : t.table.words.shared.key ≡ o
  pub sessions : AreNew law t.table o count t.sessions.items
  pub idle : AreIdle t.table.words.shared.table_id o.run o.tail count SESSIONS t.idle.items
  pub fits : Fits t.table.words.shared.table_id t.flush
  pub gathers : MayGather (view t.flush)
  pub unpinned : (part_of (view t.flush) FLUSH_SEAT).place ≡ Idle
  pub joins : MayJoin (view t.flush)
  pub start : (book t.flush).start ≡ start_of o
  pub unflushed : IsUnflushed o (book t.flush)
  pub rows : SameRows (opened_view (start_of o)).opening.rows (rows_of o.rows.items)
  pub serializable : IsSerializable law (opened_view (start_of o))
