-- What the calls of a session leave of a pass's view, and why they are refused.
use Rattle.std.specs.Prelude.{◌≡◌, ◌≢◌, ℕ, ◌<◌, Bool, true, false, if◌then◌else◌, List, length, map}
use Rattle.erm_cells.specs.Placed.{place_of}
use Rattle.erm_cells.specs.Rows.{DidStoreRow}
use Rattle.erm_ends.specs.Ends.{DidAbort}
use Rattle.erm_machine.specs.declared.attempt.Claim.{Claim}
use Rattle.erm_machine.specs.declared.limits.TheConstants.{LAST_NUMBER}
use Rattle.erm_machine.specs.declared.part.Part.{Part}
use Rattle.erm_machine.specs.Core.{claim_at}
use Rattle.erm_machine.specs.Seat.{read_at}
use Rattle.erm_model.specs.declared.outcome.Phase.{Phase}
use Rattle.erm_model.specs.declared.outcome.Phase.TheVariants as phase
use Rattle.erm_model.specs.declared.row_stop.RowStop.{RowStop}
use Rattle.erm_model.specs.declared.row_stop.RowStop.TheVariants as stop
use Rattle.erm_record.specs.Stored.{block_words}
use Rattle.erm_rows.specs.Claims.{DidClaim, DidNotClaim}
use Rattle.erm_rows.specs.Reads.{DidNotRead, DidRead}
use Rattle.erm_rule.specs.declared.view.View.{View}
use Rattle.erm_rule.specs.Views.{part_of}
use Rattle.erm_seats.specs.declared.answer.BeginStop.TheVariants as seats
use Rattle.erm_seats.specs.Calls.{DidSeal, DidStop}
use Rattle.erm_world.specs.declared.stops.BeginStop.{BeginStop}
use Rattle.erm_world.specs.declared.stops.BeginStop.TheVariants as begin
use Rattle.erm_rows.specs.Tidies.{DidTidy, HasClaim}

-- BEGIN. The session has no number left, and nothing is changed; or the log is at its end.
abbrev pub MayNotBegin : View → ℕ → BeginStop → View → Type 0
MayNotBegin v who begin.NumbersEnd w = (w ≡ v) × ((part_of v who).number ≡ LAST_NUMBER)
MayNotBegin v who (begin.LogEnd tail) w = DidStop v who (seats.LogEnd tail) w
MayNotBegin v who begin.Memory w = ⊥

-- the transaction has claimed this object, at this place
pub record IsClaimedAt (x : Part) (oid place : ℕ) : Type 0 where
  pub within : place < length x.current.writes
  pub oid_is : (claim_at x.current place).version.oid ≡ oid

-- it has claimed the object, and this is its row
pub record HasClaimed (x : Part) (oid : ℕ) (row : List ℕ) : Type 0 where
  pub place : ℕ
  pub claimed : IsClaimedAt x oid place
  pub row_is : row ≡ (claim_at x.current place).row

-- it has read a version of the object, with this row
pub record HasRead (x : Part) (oid : ℕ) (row : List ℕ) : Type 0 where
  pub place : ℕ
  pub within : place < length x.current.reads
  pub oid_is : (read_at x.current place).version.oid ≡ oid
  pub row_is : row ≡ (read_at x.current place).row

-- it has claimed it at no place, and read no version of it
abbrev pub IsUnclaimed : Part → ℕ → Type 0
IsUnclaimed x oid = (k : ℕ) → k < length x.current.writes → (claim_at x.current k).version.oid ≢ oid

abbrev pub IsUnread : Part → ℕ → Type 0
IsUnread x oid = (k : ℕ) → k < length x.current.reads → (read_at x.current k).version.oid ≢ oid

-- READ. The own row, the row read before, or that of a version that is read now.
pub data ReadsRow (v : View) (who oid : ℕ) (row : List ℕ) (w : View) : Type 0 where
  own : w ≡ v → HasClaimed (part_of v who) oid row → ReadsRow v who oid row w
  again : w ≡ v → IsUnclaimed (part_of v who) oid → HasRead (part_of v who) oid row → ReadsRow v who oid row w
  first : IsUnclaimed (part_of v who) oid → IsUnread (part_of v who) oid → DidRead v who oid row w → ReadsRow v who oid row w

-- after these refusals a transaction may not go on
abbrev pub is_end : RowStop → Bool
is_end (stop.Owned seat number) = true
is_end (stop.Newer stamp) = true
is_end (stop.Excluded succ pred) = true
is_end why = false

-- the phase of a session whose call was refused
abbrev pub IsRefusedPhase : RowStop → Phase → Type 0
IsRefusedPhase why p = p ≡ (if is_end why then phase.Idle else phase.Active)

-- a call was refused, which left that view, and then the transaction was aborted
pub record IsEnded (cause : View → Type 0) (who : ℕ) (w : View) : Type 0 where
  pub between : View
  pub refused : cause between
  pub aborted : DidAbort between who w

-- the transaction goes on after a refusal, or is aborted
abbrev pub EndsWhere : Bool → (View → Type 0) → ℕ → View → Type 0
EndsWhere true cause who w = IsEnded cause who w
EndsWhere false cause who w = cause w

-- A read is refused, of an object that is neither claimed nor read.
pub record RefusesRead (v : View) (who oid : ℕ) (why : RowStop) (w : View) : Type 0 where
  pub unclaimed : IsUnclaimed (part_of v who) oid
  pub unread : IsUnread (part_of v who) oid
  pub refused : EndsWhere (is_end why) (λ u. DidNotRead v who oid why u) who w

-- CLAIM. The object was claimed before, or is now.
pub data ClaimsObject (v : View) (who oid : ℕ) (w : View) : Type 0 where
  before : w ≡ v → (row : List ℕ) → HasClaimed (part_of v who) oid row → ClaimsObject v who oid w
  now : IsUnclaimed (part_of v who) oid → (row : List ℕ) → DidClaim v who oid row w → ClaimsObject v who oid w

-- TIDY. An object that was claimed before has its chain cut, by which so many cells became spare ones; another one is claimed.
pub data TidiesObject (v : View) (who oid count : ℕ) (w : View) : Type 0 where
  again_tidied : HasClaim (part_of v who) oid → DidTidy v who count w → TidiesObject v who oid count w
  now_claimed : IsUnclaimed (part_of v who) oid → ClaimsObject v who oid w → TidiesObject v who oid count w

-- A claim is refused, of an object that isn't claimed.
pub record RefusesClaim (v : View) (who oid : ℕ) (why : RowStop) (w : View) : Type 0 where
  pub unclaimed : IsUnclaimed (part_of v who) oid
  pub refused : EndsWhere (is_end why) (λ u. DidNotClaim v who oid why u) who w

-- the row of the claim at this place was set
pub record SetsRow (v : View) (who place : ℕ) (row : List ℕ) (w : View) : Type 0 where
  pub cell : ℕ
  pub of : place_of cell (part_of v who) ≡ place
  pub stored : DidStoreRow v who cell row w

-- WRITE. The object is claimed, and then its row is set.
pub record WritesRow (v : View) (who oid : ℕ) (row : List ℕ) (w : View) : Type 0 where
  pub between : View
  pub claimed : ClaimsObject v who oid between
  pub place : ℕ
  pub of : IsClaimedAt (part_of between who) oid place
  pub set : SetsRow between who place row w

-- SEAL. The range drawn has the size of the block with the rows claimed.
pub record SealsRows (v : View) (who stamp : ℕ) (w : View) : Type 0 where
  pub sealed : DidSeal v who (block_words (map (λ (c : Claim). c.row) (part_of v who).current.writes)) stamp w
