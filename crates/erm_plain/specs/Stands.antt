-- The world in lists, with the savepoints of its sessions' transactions.
use Rattle.std.specs.Prelude.{◌≡◌, ◌<◌, ◌≤◌, ℕ, List, [], length, slice_index_or, Some}
use Rattle.std.specs.List.{slice_get}
use Rattle.erm_model.specs.declared.history.VersionWritten.{VersionWritten}
use Rattle.erm_model.specs.declared.limits.TheConstants.{SAVES}
use Rattle.erm_model.specs.RowTransaction.{Law}
use Rattle.erm_world.specs.Laws.{IsPossibleIn, IsSerializable}
use Rattle.erm_world.specs.Log.{IsLog}
use Rattle.erm_world.specs.Safe.{HasSafeStamps}
use Rattle.erm_world.specs.Saves.{AreSavesOf, with_saves}
use Rattle.erm_world.specs.Whole.{IsLogOf}
use Rattle.erm_world.specs.World.{IsSession, View, Work}
use Rattle.erm_world.specs.World as world
use Rattle.erm_lists.specs.Logs.{lists_log}
use Rattle.erm_lists.specs.Restores.{AreKept}
use Rattle.erm_lists.specs.Stands as lists
use Rattle.erm_lists.specs.Stands.{lists_view}
use Rattle.erm_plain.specs.declared.plain.Plain.{Plain}

-- the savepoints that a session holds, where these are held by seat
abbrev pub held_by : List (List (List VersionWritten)) → ℕ → List (List VersionWritten)
held_by held seat = slice_index_or held seat []

-- what it means: the view of the world in lists, and the savepoints held
abbrev pub plain_view : {L : Type 0} → Plain L → View
plain_view p = with_saves (held_by p.saves) (lists_view p.lists)

-- A transaction in progress may go back to each savepoint that it holds: it has still what it had claimed there, and a row there that no write
-- had set is that of the version overwritten.
pub record MayGoBack (w : Work) (held : List (List VersionWritten)) : Type 0 where
  pub few : length held ≤ SAVES
  pub saves : AreSavesOf w held
  pub kept : (place : ℕ) (saved : List VersionWritten) → slice_get held place ≡ Some saved → AreKept saved

-- so may each one of a view's sessions
abbrev pub AllMayGoBack : View → (ℕ → List (List VersionWritten)) → Type 0
AllMayGoBack v held = (seat : ℕ) (w : Work) → IsSession v seat → (v.session seat).stand ≡ world.active w → MayGoBack w (held seat)

-- it may be called: the world in lists may be, each session has its place for savepoints, and may go back to those that it holds
pub record Stands {L : Type 0} (law : Law) (p : Plain L) : Type 0 where
  pub lists : lists.Stands law p.lists
  pub room : p.lists.sessions < length p.saves
  pub held : AllMayGoBack (lists_view p.lists) (held_by p.saves)

-- it stands, and has what the laws of a world say of its view and of its log
pub record IsWorld {L : Type 0} (law : Law) (p : Plain L) : Type 0 where
  pub stands : Stands law p
  pub serializable : IsSerializable law (plain_view p)
  pub possible : IsPossibleIn law (plain_view p)
  pub safe_stamps : HasSafeStamps (plain_view p)
  pub log : IsLog law.meets (lists_log p.lists)
  pub log_of_view : IsLogOf (plain_view p) (lists_log p.lists)
