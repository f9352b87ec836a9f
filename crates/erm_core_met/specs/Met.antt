-- What a step meets of other seats' transactions.
use Rattle.std.specs.Prelude.{◌≡◌, ◌≢◌, ◌⊎◌, ℕ, ◌<◌, ◌≤◌, true, length}
use Rattle.erm_model.specs.declared.history.TransactionRecord.{TransactionRecord}
use Rattle.erm_model.specs.History.{Makes}
use Rattle.erm_model.specs.Member.{◌∈◌}
use Rattle.erm_machine.specs.declared.version.VersionAt.{VersionAt}
use Rattle.erm_machine.specs.Core.{Core}
use Rattle.erm_machine.specs.Decided.{history_of}
use Rattle.erm_machine.specs.Facts.{Holds, HasBegun}
use Rattle.erm_machine.specs.Lives.{in_progress, IsBeginning}
use Rattle.erm_machine.specs.Seat.{read_at}
use Rattle.erm_machine.specs.Words.{is_seat, state_of}

-- the seat has words, and its transaction of this number is in progress and has claimed the object
pub record IsOwner (c : Core) (oid owner number : ℕ) : Type 0 where
  pub seat : is_seat owner ≡ true
  pub in_progress : in_progress (c.seats owner).place ≡ 1
  pub number_is : (c.seats owner).current.number ≡ number
  pub claims : Holds (c.seats owner) oid

-- a committed transaction of another seat made a version of the object with this stamp
pub record IsNewer (c : Core) (seat oid stamp : ℕ) : Type 0 where
  pub by : TransactionRecord
  pub committed : by ∈ history_of c.seats
  pub another : by.seat ≢ seat
  pub stamp_is : by.stamp ≡ stamp
  pub makes : Makes by oid

-- the seat isn't clear for a bound: it is sealing, or its state word is the stamp of its transaction, which lies below
abbrev pub IsBelow : Core → ℕ → ℕ → Type 0
IsBelow c other bound = (state_of (c.seats other).place ≡ 1)
    ⊎ ((state_of (c.seats other).place ≡ (c.seats other).current.stamp) × (0 < (c.seats other).current.stamp) × ((c.seats other).current.stamp < bound))

-- the current transaction of a seat has read the version, and its reader bit stands
abbrev pub HasVersionRead : Core → ℕ → VersionAt → Type 0
HasVersionRead c other v = (k : ℕ) × (k < length (c.seats other).current.reads) × ((read_at (c.seats other).current k).version.oid ≡ v.oid)
    × ((read_at (c.seats other).current k).version.place ≡ v.place)

-- the seat's transaction, whose begin word this is, begins there or later; or the seat has announced it, and its begin stamp, which it
-- hasn't loaded yet, will be the tail or greater
abbrev pub IsBegunFrom : Core → ℕ → ℕ → Type 0
IsBegunFrom c other seen = (HasBegun (c.seats other).place × (seen ≤ (c.seats other).current.begin)) ⊎ (IsBeginning (c.seats other).place × (seen ≤ c.shared.tail))

-- a committed transaction of the seat has this stamp, and a successor stamp below it
pub record HasGoneBack (c : Core) (seat stamp : ℕ) : Type 0 where
  pub by : TransactionRecord
  pub committed : by ∈ history_of c.seats
  pub seat_is : by.seat ≡ seat
  pub stamp_is : by.stamp ≡ stamp
  pub less : by.succ < stamp
