-- The savepoints of the world's sessions.
use Rattle.std.specs.List.{slice_get}
use Rattle.std.specs.Prelude.{◌≡◌, ◌≢◌, ◌==◌, ◌-◌, ℕ, if◌then◌else◌, List, [], Option, Some, None}
use Rattle.erm_core_view.specs.Views.{view_of}
use Rattle.erm_machine.specs.declared.part.Part.{Part}
use Rattle.erm_machine.specs.Core.{Core}
use Rattle.erm_model.specs.declared.history.VersionWritten.{VersionWritten}
use Rattle.erm_model.specs.declared.outcome.Phase.TheVariants.{Active}
use Rattle.erm_rule.specs.Books.{book}
use Rattle.erm_rule.specs.Went.{core_of}
use Rattle.erm_session.specs.declared.session.Session.{Session}
use Rattle.erm_session.specs.Saves.{saves_of}
use Rattle.erm_world.specs.World.{phase_at}
use Rattle.erm_table_world.specs.declared.table_world.TableWorld.{TableWorld}

-- the claims of a session's transaction at each of its savepoints, if there is the session
abbrev pub saves_by : Option Session → Part → List (List VersionWritten)
saves_by None x = []
saves_by (Some s) x = saves_of s x

-- those of the sessions of the seats from 1 on, which stand in this order
abbrev pub saves_in : List Session → Core → ℕ → List (List VersionWritten)
saves_in sessions c q = if q == 0 then [] else saves_by (slice_get sessions (q - 1)) (c.seats q)

abbrev pub table_saves : {L : Type 0} → TableWorld L → ℕ → List (List VersionWritten)
table_saves w = saves_in w.sessions.items (core_of (book w.pass))

-- A session whose transaction wasn't ended has its savepoints still, and so have the others.
pub record KeepsSaves {L : Type 0} (w : TableWorld L) (seat : ℕ) (n : TableWorld L) : Type 0 where
  pub own : (phase_at (view_of w.count (core_of (book w.pass))) seat ≡ Active → phase_at (view_of n.count (core_of (book n.pass))) seat ≡ Active) → table_saves n seat ≡ table_saves w seat
  pub others : (q : ℕ) → q ≢ seat → table_saves n q ≡ table_saves w q
