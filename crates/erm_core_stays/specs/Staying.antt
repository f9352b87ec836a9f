-- What stays of a state in all later ones.
use Rattle.std.specs.Prelude.{◌≡◌, ◌≢◌, ◌⊎◌, ℕ, ◌<◌, ◌≤◌, false, List, ◌++◌, length, map, slice_index_or, is_none}
use Rattle.erm_machine.specs.declared.attempt.Attempt.{Attempt}
use Rattle.erm_machine.specs.declared.attempt.Claim.{Claim}
use Rattle.erm_machine.specs.declared.attempt.Decision.TheVariants.{Undecided}
use Rattle.erm_machine.specs.declared.attempt.Read.{Read}
use Rattle.erm_machine.specs.declared.event.Event.{Event}
use Rattle.erm_machine.specs.declared.event.Kind.{Kind}
use Rattle.erm_machine.specs.declared.event.Kind.TheVariants as kind
use Rattle.erm_machine.specs.declared.version.Span.{Span}
use Rattle.erm_machine.specs.Core.{Shared, no_claim}
use Rattle.erm_machine.specs.Decided.{record_of, written_of}
use Rattle.erm_machine.specs.Words.{number_of, owner_of}
use Rattle.erm_model.specs.Member.{◌∈◌}

-- The end of the log, the place flushed and the counters are no less, and the ranges drawn stand first among those drawn; what the
-- opening gave is the same.
pub record Rises (s t : Shared) : Type 0 where
  pub opening : t.opening ≡ s.opening
  pub run : t.run ≡ s.run
  pub first : t.first ≡ s.first
  pub cell_limit : t.cell_limit ≡ s.cell_limit
  pub tail : s.tail ≤ t.tail
  pub log : (more : List Span) × (t.log ≡ s.log ++ more)
  pub flushed : s.flushed ≤ t.flushed
  pub objects_drawn : s.objects_drawn ≤ t.objects_drawn
  pub cells_drawn : s.cells_drawn ≤ t.cells_drawn

-- a store of the place flushed
abbrev pub StoresFlushed : Kind → Type 0
StoresFlushed (kind.StoreFlushed value) = Unit {0}
StoresFlushed _ = ⊥

-- The claim is there to stay: it has its cell, or is over. One that waits for a cell is given up where there is none.
abbrev pub IsFirm : Claim → Type 0
IsFirm w = (w.held ≡ false) ⊎ (is_none w.own ≡ false)

-- the claim at a place of a list
abbrev pub claim_in : List Claim → ℕ → Claim
claim_in ws place = slice_index_or ws place no_claim

-- the claim at a place of the first list stands there in the second: it overwrites the same version, and is firm
pub record ClaimStays (place : ℕ) (ws vs : List Claim) : Type 0 where
  pub within : place < length vs
  pub version : (claim_in vs place).version ≡ (claim_in ws place).version
  pub stamp : (claim_in vs place).stamp ≡ (claim_in ws place).stamp
  pub base : (claim_in vs place).base ≡ (claim_in ws place).base
  pub firm : IsFirm (claim_in vs place)

-- one of some claims is of the object
abbrev pub IsAmong : List Claim → ℕ → Type 0
IsAmong ws oid = (place : ℕ) × (place < length ws) × ((claim_in ws place).version.oid ≡ oid)

-- the transaction has claimed the object, or had, and the claim was given up for want of a cell
abbrev pub HasTried : Attempt → ℕ → Type 0
HasTried t oid = IsAmong t.writes oid ⊎ (oid ∈ t.given_up)

-- the range of a transaction that has one, and what it has read, claimed, made and given up
pub record KeepsRange (t u : Attempt) : Type 0 where
  pub stamp : u.stamp ≡ t.stamp
  pub size : u.size ≡ t.size
  pub reads : u.reads ≡ t.reads
  pub writes : map written_of u.writes ≡ map written_of t.writes
  pub made : u.made ≡ t.made
  pub given_up : u.given_up ≡ t.given_up

-- how a transaction was decided, all that the history has of it, and its block
pub record KeepsDecision (t u : Attempt) : Type 0 where
  pub decision : u.decision ≡ t.decision
  pub record_is : (seat : ℕ) → record_of seat u ≡ record_of seat t
  pub header : u.header ≡ t.header
  pub block : u.block ≡ t.block

-- U is the transaction T as it is later. What it has read, made and given up stands first among what it has; its firm claims stay, and what it
-- had claimed or given up it has claimed or given up. From the draw of its range on nothing is added, and from its decision on all stays.
pub record Continues (t u : Attempt) : Type 0 where
  pub number : u.number ≡ t.number
  pub begin : u.begin ≡ t.begin
  pub reads : (more : List Read) × (u.reads ≡ t.reads ++ more)
  pub made : (more : List ℕ) × (u.made ≡ t.made ++ more)
  pub given_up : (more : List ℕ) × (u.given_up ≡ t.given_up ++ more)
  pub tried : (oid : ℕ) → HasTried t oid → HasTried u oid
  pub claims : (place : ℕ) → place < length t.writes → IsFirm (claim_in t.writes place) → ClaimStays place t.writes u.writes
  pub drawn : 0 < t.stamp → KeepsRange t u
  pub decided : t.decision ≢ Undecided → KeepsDecision t u

-- the entry of an object is owned by the transaction of this number of this seat
pub record IsOwnedBy (s : Shared) (oid owner number : ℕ) : Type 0 where
  pub owner_is : owner_of (s.objects oid).entry ≡ owner
  pub number_is : number_of (s.objects oid).entry ≡ number

-- Among some events is the step by which the seat claims the object for its transaction of this number.
abbrev pub HasClaimed : List Event → (seat oid number : ℕ) → Type 0
HasClaimed es seat oid number = (seen : ℕ) × (record { seat = seat; kind = kind.Claim oid seen number } ∈ es)
