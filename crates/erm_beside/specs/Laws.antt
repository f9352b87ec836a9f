-- What is so of a session that shares its world with others.
use Rattle.std.specs.Prelude.{◌≡◌, ℕ, ◌≤◌, length}
use Rattle.erm_model.specs.declared.limits.TheConstants.{SAVES}
use Rattle.erm_model.specs.declared.outcome.Phase.TheVariants.{Active}
use Rattle.erm_model.specs.Lawful.{times_made}
use Rattle.erm_model.specs.RowTransaction.{Law}
use Rattle.erm_model.specs.Rows.{Rows}
use Rattle.erm_world.specs.Laws.{FitsWork}
use Rattle.erm_world.specs.Saves.{AreSavesOf, OnceOf}
use Rattle.erm_world.specs.World.{IsSession, View, phase_at, work_at}
use Rattle.erm_beside.specs.Later.{IsLater}

-- a session goes on from one state to another: it is of the same seat, and what all may end in was so before
pub record GoesOnward (seat then_seat : ℕ) (before after : View → Type 0) : Type 0 where
  pub seat_is : then_seat ≡ seat
  pub ends_so : (f : View) → after f → before f

-- It is a session of its world, the transaction of an active one may have begun on some array of rows that meets the law, none has made an object
-- twice, and the one in progress has claimed none twice, has still what it had claimed at its savepoints, and holds no more than it may.
pub record IsSound (law : Law) (v : View) (seat : ℕ) : Type 0 where
  pub session : IsSession v seat
  pub possible : phase_at v seat ≡ Active → (rows : Rows) × law.meets rows × FitsWork law (work_at v seat) rows
  pub once : (x : ℕ) → times_made (work_at v seat).made x ≤ 1
  pub claimed_once : OnceOf (work_at v seat).claims
  pub saves : phase_at v seat ≡ Active → AreSavesOf (work_at v seat) (v.saves seat)
  pub few_saves : phase_at v seat ≡ Active → length (v.saves seat) ≤ SAVES

-- What a session knows is within the world in which all end: this was opened so, has the session in a later state, and its log has come as far at
-- least.
pub record IsWithin (seat : ℕ) (v f : View) : Type 0 where
  pub session : IsSession f seat
  pub own : IsLater (v.session seat) (f.session seat)
  pub opening : f.opening ≡ v.opening
  pub tail : v.tail ≤ f.tail
  pub flushed : v.flushed ≤ f.flushed
