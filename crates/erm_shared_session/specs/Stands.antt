-- A session of the word table with the pass of its seat: when it may be called, what it knows, and in which worlds all may end.
use Rattle.std.specs.Prelude.{ℕ, ◌==◌, if◌then◌else◌, List, []}
use Rattle.erm_machine.specs.declared.part.Part.{Part}
use Rattle.erm_model.specs.declared.history.VersionWritten.{VersionWritten}
use Rattle.erm_model.specs.RowTransaction.{Law}
use Rattle.erm_own_view.specs.Own.{EndsIn, MayCall, own_view}
use Rattle.erm_rule.specs.declared.rule.Table.{Table}
use Rattle.erm_rule.specs.Books.{book}
use Rattle.erm_rule.specs.Steps.{Fits}
use Rattle.erm_rule.specs.Views.{part_of, view}
use Rattle.erm_session.specs.declared.session.Session.{Session}
use Rattle.erm_session.specs.Saves.{saves_of}
use Rattle.erm_session.specs.Session.{IsSession}
use Rattle.erm_shared_session.specs.declared.session.TableSession.{TableSession}
use Rattle.erm_world.specs.Saves.{with_saves}
use Rattle.erm_world.specs.World.{View}

abbrev pub seat_of : {L : Type 0} → TableSession L → ℕ
seat_of s = s.session.seat

-- what it knows beside its savepoints: its own part, as its pass has it, and how far the log has come, and is synced, at least
abbrev pub bare_of : {L : Type 0} → TableSession L → View
bare_of s = own_view s.session.seat s.tail s.flushed (book s.pass)

-- the savepoints of the session of this seat alone
abbrev pub seat_saves : Session → Part → ℕ → List (List VersionWritten)
seat_saves s x q = if q == s.seat then saves_of s x else []

abbrev pub own_saves : {L : Type 0} → TableSession L → ℕ → List (List VersionWritten)
own_saves s = seat_saves s.session (part_of (view s.pass) s.session.seat)

-- what it knows
abbrev pub own_of : {L : Type 0} → TableSession L → View
own_of s = with_saves (own_saves s) (bare_of s)

-- as far as it knows by now all may end in this world
abbrev pub Ends : {L : Type 0} → Law → TableSession L → View → Type 0
Ends law s f = EndsIn law s.session.seat (book s.pass) (bare_of s) f

-- It may be called on this table: its pass is one of the table's, and what it keeps beside the pass is its seat's.
pub record Stands {L : Type 0} (law : Law) (table : Table L) (s : TableSession L) : Type 0 where
  pub fits : Fits table.words.shared.table_id s.pass
  pub session : IsSession s.session (part_of (view s.pass) s.session.seat)
  pub may : MayCall law s.session.seat s.tail s.flushed (book s.pass)
