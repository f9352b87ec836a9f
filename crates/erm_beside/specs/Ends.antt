-- What a refusal says of the other sessions, of a world in which all end: what was met stays so, and is so of it.
use Rattle.std.specs.Prelude.{◌≡◌, ◌≢◌, ℕ, ◌<◌, ◌≤◌, ◌⊎◌, true, List, [], ◌∷◌, ◌++◌}
use Rattle.erm_model.specs.declared.history.TransactionRecord.{TransactionRecord}
use Rattle.erm_model.specs.declared.row_stop.RowStop.{RowStop}
use Rattle.erm_model.specs.declared.row_stop.RowStop.TheVariants as stop
use Rattle.erm_model.specs.History.{Makes}
use Rattle.erm_model.specs.Member.{◌∈◌}
use Rattle.erm_model.specs.RowTransaction.{Asked, asked_claim, asked_make, asked_read}
use Rattle.erm_world.specs.Calls.{AreAllDrawn, AreAllMade, IsJustAbove, IsShut}
use Rattle.erm_world.specs.World.{Finished, Has, IsSession, View, Work, history_of, work_at}
use Rattle.erm_world.specs.World as world
use Rattle.erm_world.specs.Works.{is_claimed}

-- Another session's transaction, over or in progress, of this number, has claimed the object, or gave the claim up. It began at or below this place of
-- the log, or in any case at or below the begin of each transaction of the own session with a greater number than this one.
pub record WasOwned (f : View) (seat oid other number own place : ℕ) : Type 0 where
  pub session : IsSession f other
  pub another : other ≢ seat
  pub work : Work
  pub has : Has f other work
  pub number_is : work.number ≡ number
  pub tried : (is_claimed work.claims oid ≡ true) ⊎ (record { number = number; oid = oid } ∈ f.given_up other)
  pub begun : (work.begin ≤ place) ⊎ ((u : Work) → Has f seat u → own < u.number → work.begin ≤ u.begin)

-- a commit of another session, with this stamp at or above the begin, made a version of the object
pub record WasNewer (f : View) (seat begin oid stamp : ℕ) : Type 0 where
  pub by : TransactionRecord
  pub committed : by ∈ history_of f
  pub another : by.seat ≢ seat
  pub stamp_is : by.stamp ≡ stamp
  pub makes : Makes by oid
  pub above : begin ≤ stamp

-- the session's last transaction that is over was aborted, and was this
abbrev pub Aborted : View → ℕ → Work → Type 0
Aborted t seat w = (front : List Finished) × ((t.session seat).over ≡ front ++ record { work = w; fate = world.aborts } ∷ [])

-- THE REFUSAL. Of a call for this object that was refused so, from one own view to another: the log's end was seen above each stamp of a
-- commit that was met.
abbrev pub MetOf : View → ℕ → ℕ → RowStop → View → View → Type 0
MetOf f seat oid (stop.Owned other number) v t = WasOwned f seat oid other number (work_at v seat).number t.tail
MetOf f seat oid (stop.Newer stamp) v t = WasNewer f seat (work_at v seat).begin oid stamp × (stamp < t.tail)
MetOf f seat oid (stop.CellsFull drawn) v t = IsJustAbove f.opening.cells drawn × AreAllDrawn f
MetOf f seat oid (stop.Excluded succ pred) v t = (pred < t.tail) × ((w : Work) → Aborted t seat w → IsShut f seat w succ pred)
MetOf f seat oid why v t = Unit {0}

-- the same of a call that asked for this
abbrev pub MetBeside : View → ℕ → Asked → RowStop → View → View → Type 0
MetBeside f seat (asked_read oid) why v t = MetOf f seat oid why v t
MetBeside f seat (asked_claim oid) why v t = MetOf f seat oid why v t
MetBeside f seat asked_make (stop.OidsFull drawn) v t = AreAllMade f
MetBeside f seat asked_make why v t = Unit {0}
