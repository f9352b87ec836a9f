-- A claim: the head of an object without owner, and its exchange.
use Rattle.std.specs.Prelude.{◌≡◌, ◌≢◌, ◌<◌, ℕ, Bool, true, false, List, length, slice_index_or, Some}
use Rattle.erm_machine.specs.declared.attempt.Claim.{Claim}
use Rattle.erm_machine.specs.declared.task.Task.{Task}
use Rattle.erm_machine.specs.declared.task.Task.TheVariants as task
use Rattle.erm_machine.specs.declared.version.VersionAt.{VersionAt}
use Rattle.erm_machine.specs.Core.{Core, claim_at, no_claim}
use Rattle.erm_machine.specs.Seat.{is_own, may_start}
use Rattle.erm_machine.specs.Words.{owner_of}
use Rattle.erm_core_view.specs.Views.{view_of}
use Rattle.erm_world.specs.Calls.{Works}
use Rattle.erm_world.specs.World.{work_at}
use Rattle.erm_world.specs.Works.{claiming}
use Rattle.erm_core_steps.specs.Reads.{IsAtWork}

-- an owner was found clear: the next load of an entry is a read's
abbrev pub is_cleared : Task → Bool
is_cleared (task.Cleared oid) = true
is_cleared t = false

-- the entry loaded, which has no owner, still is the object's, and its head is in hand
pub record HasHead (c : Core) (seat oid entry : ℕ) : Type 0 where
  pub version : VersionAt
  pub is : (c.seats seat).task ≡ task.Walks version (Some entry)
  pub oid_is : version.oid ≡ oid
  pub entry_is : (c.shared.objects oid).entry ≡ entry
  pub unowned : owner_of entry ≡ 0

-- and its stamp lies below the begin stamp
pub record HasFreeHead (c : Core) (seat oid entry : ℕ) : Type 0 where
  pub version : VersionAt
  pub stamp : ℕ
  pub is : (c.seats seat).task ≡ task.Found version stamp (Some entry)
  pub oid_is : version.oid ≡ oid
  pub entry_is : (c.shared.objects oid).entry ≡ entry
  pub unowned : owner_of entry ≡ 0

-- the object is claimed, and keeps its row
pub record HasExchanged (sessions seat oid : ℕ) (c d : Core) : Type 0 where
  pub others : (q : ℕ) → q ≢ seat → d.seats q ≡ c.seats q
  pub stamp : ℕ
  pub base : List ℕ
  pub shows : Works (view_of sessions c) seat
      (claiming (record { oid = oid; stamp = stamp; base = base; row = base; is_set = false }) (work_at (view_of sessions c) seat)) (view_of sessions d)
  pub at : IsAtWork seat d
  pub version : VersionAt
  pub claimed : (d.seats seat).task ≡ task.Claimed version
  pub oid_is : version.oid ≡ oid

-- the claim on an object stands at this place
pub record StandsAt (ws : List Claim) (oid place : ℕ) : Type 0 where
  pub within : place < length ws
  pub oid_is : (slice_index_or ws place no_claim).version.oid ≡ oid

-- a write of the claim at this place has come to its k-th word
pub record IsStoring (seat place cell k : ℕ) (c : Core) : Type 0 where
  pub at : IsAtWork seat c
  pub within : place < length (c.seats seat).current.writes
  pub own : is_own cell (claim_at (c.seats seat).current place).own ≡ true
  pub starts : k ≡ 0 → may_start (c.seats seat).task ≡ true
  pub goes_on : 0 < k → k < 16 → (c.seats seat).task ≡ task.Writes place k
