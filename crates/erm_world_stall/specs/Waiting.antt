-- Which session of a world waits for which, by the refusals that it was told.
use Rattle.std.specs.Prelude.{◌≡◌, ℕ, zero, suc, ◌≤◌}
use Rattle.erm_model.specs.declared.outcome.Phase.TheVariants.{Active}
use Rattle.erm_model.specs.declared.row_stop.RowStop.TheVariants as stop
use Rattle.erm_world.specs.declared.stops.Wait.TheVariants as wait
use Rattle.erm_world.specs.Calls.{DidNotRead, DidNotSettle}
use Rattle.erm_world.specs.World.{IsSession, Stand, View, Work, active, idle, phase_at, sealed, snapshot}

-- A session waits for another: for its decision, to read an object that it has claimed, or to be settled.
pub data WaitsFor (v : View) (p q : ℕ) : Type 0 where
  to_read : (oid seen : ℕ) (after : View) → phase_at v p ≡ Active → DidNotRead v p oid (stop.NotYet q seen) after → WaitsFor v p q
  to_settle : (seen : ℕ) (after : View) → DidNotSettle v p (wait.Seat q seen) after → WaitsFor v p q

-- it waits for it through so many in between
abbrev pub Chain : View → ℕ → ℕ → ℕ → Type 0
Chain v zero p q = WaitsFor v p q
Chain v (suc n) p q = (m : ℕ) × WaitsFor v p m × Chain v n m q

-- the stamp below which a session waits for others: the begin stamp of an active one, the commit stamp of a sealed one
abbrev pub bound_of : Stand → ℕ
bound_of idle = 0
bound_of (active w) = w.begin
bound_of (sealed w stamp) = stamp
bound_of (snapshot s) = s.begin

abbrev pub bound_at : View → ℕ → ℕ
bound_at v seat = bound_of (v.session seat).stand

-- it is sealed with this stamp, the least of all sessions that are sealed
pub record IsLeastSealed (v : View) (seat stamp : ℕ) : Type 0 where
  pub work : Work
  pub stand : (v.session seat).stand ≡ sealed work stamp
  pub least : (q s : ℕ) (w : Work) → IsSession v q → (v.session q).stand ≡ sealed w s → stamp ≤ s

-- no session is sealed
abbrev pub NoneSealed : View → Type 0
NoneSealed v = (q s : ℕ) (w : Work) → IsSession v q → (v.session q).stand ≡ sealed w s → ⊥
