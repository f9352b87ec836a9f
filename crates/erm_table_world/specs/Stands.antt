-- The world over the word table: the state that the steps of its one pass lead to, and the sessions beside that pass.
use Rattle.std.specs.Prelude.{◌≡◌, ℕ, ◌+◌, ◌<◌, true, List, length, slice_index_or, IfSome}
use Rattle.erm_cells.specs.Calls.{starts_anew}
use Rattle.erm_model.specs.declared.limits.TheConstants.{TABLE_CELLS}
use Rattle.erm_model.specs.RowTransaction.{Law}
use Rattle.erm_machine.specs.declared.place.Place.TheVariants.{Idle}
use Rattle.erm_machine.specs.Core.{Core, fresh_part}
use Rattle.erm_sound.specs.Kept.{SoundUnder}
use Rattle.erm_core_turns.specs.Turns.{log_of}
use Rattle.erm_core_view.specs.Views.{IsQuiet, view_of}
use Rattle.erm_rule.specs.declared.view.Book.{Book}
use Rattle.erm_rule.specs.Books.{book}
use Rattle.erm_rule.specs.Steps.{Fits}
use Rattle.erm_rule.specs.Newest.{CutsAtNewest}
use Rattle.erm_rule.specs.Views.{IsInOrder, IsView}
use Rattle.erm_rule.specs.Went.{IsWhole, core_of}
use Rattle.erm_session.specs.declared.session.Session.{Session}
use Rattle.erm_session.specs.Session.{IsSession}
use Rattle.erm_table_world.specs.Covered.{IsCovered}
use Rattle.erm_table_world.specs.Flusher.{pin_in, task_in}
use Rattle.erm_world.specs.Laws.{IsPossibleIn, IsSerializable}
use Rattle.erm_world.specs.Log.{IsLog, Log}
use Rattle.erm_world.specs.Safe.{HasSafeStamps}
use Rattle.erm_world.specs.Saves.{with_saves}
use Rattle.erm_world.specs.Whole.{IsLogOf}
use Rattle.erm_world.specs.World.{View}
use Rattle.erm_table_world.specs.declared.table_world.TableWorld.{TableWorld}
use Rattle.erm_table_world.specs.Saves.{table_saves}

-- The pass has had all seats since the table's start: so it has one state, which is sound under the law of rows, has the table's cells,
-- and in which each cut in progress cuts behind the newest version below its horizon.
pub record IsStateful (law : Law) (b : Book) : Type 0 where
  pub whole : IsWhole b
  pub sound : SoundUnder law (core_of b)
  pub is_view : IsView b.view (core_of b)
  pub in_order : IsInOrder b.view
  pub cuts : CutsAtNewest (core_of b)
  pub limit : (core_of b).shared.cell_limit ≡ TABLE_CELLS

-- That state is one between two calls of so many sessions, and of the flush seat, which may start one anew. In it there is an object or a
-- claim for each cell drawn, or for each that can be.
pub record StandsAt (law : Law) (sessions : ℕ) (b : Book) : Type 0 where
  pub state : IsStateful law b
  pub quiet : IsQuiet sessions (core_of b)
  pub covered : IsCovered (core_of b)
  pub starts : starts_anew (task_in b) ≡ true

-- what a session keeps beside the pass is its seat's
pub record IsSessionAt (s : Session) (seat : ℕ) (c : Core) : Type 0 where
  pub seat_is : s.seat ≡ seat
  pub is : IsSession s (c.seats seat)

-- The sessions of the seats from 1 on stand in this order.
abbrev pub AreSessions : List Session → Core → Type 0
AreSessions sessions c = (k : ℕ) (d : Session) → k < length sessions → IsSessionAt (slice_index_or sessions k d) (k + 1) c

-- sessions of seats that have done nothing
abbrev pub AreNew : ℕ → List Session → Type 0
AreNew run sessions =
    (k : ℕ) (d : Session) → k < length sessions
    → ((slice_index_or sessions k d).seat ≡ k + 1) × ((tail : ℕ) → IsSession (slice_index_or sessions k d) (fresh_part Idle run tail))

-- It may be called: the pass is the table's, the sessions are as the pass has their seats, and the pin's place is the one that is kept,
-- while there is a pin.
pub record Stands {L : Type 0} (law : Law) (w : TableWorld L) : Type 0 where
  pub fits : Fits w.table.words.shared.table_id w.pass
  pub at : StandsAt law w.count (book w.pass)
  pub count : length w.sessions.items ≡ w.count
  pub sessions : AreSessions w.sessions.items (core_of (book w.pass))
  pub pin : IfSome (pin_in (book w.pass)) (λ place. w.pin ≡ place)

-- what it means: the view of the state that the steps of its pass lead to
abbrev pub table_view : {L : Type 0} → TableWorld L → View
table_view w = view_of w.count (core_of (book w.pass))

-- the same where each call cuts off so many versions at most
abbrev pub with_cuts : ℕ → View → View
with_cuts n v = record v { opening = record v.opening { cuts = n } }

-- its view as that of a world of sessions, with their savepoints: no call cuts off more versions than there are cells
abbrev pub world_view : {L : Type 0} → TableWorld L → View
world_view w = with_saves (table_saves w) (with_cuts TABLE_CELLS (table_view w))

-- its log
abbrev pub table_log : {L : Type 0} → TableWorld L → Log
table_log w = log_of w.count (core_of (book w.pass))

-- it stands, and has what the laws of a world say of its view and of its log
pub record IsTableWorld {L : Type 0} (law : Law) (w : TableWorld L) : Type 0 where
  pub stands : Stands law w
  pub serializable : IsSerializable law (world_view w)
  pub possible : IsPossibleIn law (world_view w)
  pub safe_stamps : HasSafeStamps (world_view w)
  pub log : IsLog law.meets (table_log w)
  pub log_of_view : IsLogOf (world_view w) (table_log w)
