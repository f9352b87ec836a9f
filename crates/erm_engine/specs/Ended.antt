-- The world in which the sessions of a table have ended.
use Rattle.std.specs.Prelude.{◌≡◌, ℕ, ◌≤◌, []}
use Rattle.erm_model.specs.declared.limits.TheConstants.{SESSIONS}
use Rattle.erm_model.specs.RowTransaction.{Law}
use Rattle.erm_machine.specs.Core.{Core}
use Rattle.erm_core_alone.specs.Alone.{ClaimsStandAlone}
use Rattle.erm_sound.specs.Kept.{SoundUnder}
use Rattle.erm_core_shown.specs.Shown.{HasOnly, shown_of}
use Rattle.erm_rule.specs.declared.view.Book.{Book}
use Rattle.erm_rule.specs.declared.view.Opening.{Opening}
use Rattle.erm_core_view.specs.Views.{IsQuiet}
use Rattle.erm_rule.specs.Books.{IsBookOf}
use Rattle.erm_rule.specs.Openings.{start_of}
use Rattle.erm_own_view.specs.Own.{EndsIn, WasOf, no_session, opening_of}
use Rattle.erm_world.specs.Laws.{IsSerializable}
use Rattle.erm_world.specs.World.{View}

-- what a state of the table shows: all of its seats are sessions of the world
abbrev pub world_of : Core → View
world_of c = shown_of SESSIONS c

-- A session that knows this by this book has ended in this world: all may end in it, its own part is there as it knows it, and the log
-- has come as far at least.
pub record HasEnded (law : Law) (seat : ℕ) (b : Book) (own f : View) : Type 0 where
  pub ends : EndsIn law seat b own f
  pub session : f.session seat ≡ own.session seat
  pub given_up : f.given_up seat ≡ own.given_up seat
  pub tail : own.tail ≤ f.tail
  pub flushed : own.flushed ≤ f.flushed

-- nothing was done in this session
pub record IsUntouched (seat : ℕ) (f : View) : Type 0 where
  pub session : f.session seat ≡ no_session
  pub given_up : f.given_up seat ≡ []

-- THE END. The table of this opening has ended in a sound state, to which the book of the flush seat's pass leads on, and whose rows keep
-- the law; in it all seats are between two calls, claims stand alone, sessions alone have transactions, and this is the log's end, which is flushed as
-- far as the book tells. What it shows is serializable.
pub record HasClosed (law : Law) (o : Opening) (flush : Book) (tail : ℕ) (core : Core) : Type 0 where
  pub under : SoundUnder law core
  pub only : HasOnly SESSIONS core
  pub quiet : IsQuiet SESSIONS core
  pub alone : ClaimsStandAlone core
  pub flusher : WasOf flush core
  pub beyond : ((start_of o).tail ≤ core.shared.tail) × ((start_of o).tail ≤ core.shared.flushed)
  pub flushed : (place : ℕ) → ((c : Core) → IsBookOf flush c → c.shared.flushed ≡ place) → core.shared.flushed ≡ place
  pub opening : (world_of core).opening ≡ opening_of (start_of o)
  pub tail_is : (world_of core).tail ≡ tail
  pub serializable : IsSerializable law (world_of core)
