-- Which seat's next event isn't a wait, and what a search for it has found so far.
use Rattle.std.specs.Prelude.{◌≡◌, ℕ, ◌<◌, ◌≤◌, false, Option, MatchOption}
use Rattle.erm_machine.specs.declared.limits.TheConstants.{ANNOUNCERS, FLUSH_SEAT}
use Rattle.erm_machine.specs.Core.{Core}
use Rattle.erm_machine.specs.Settling.{has_room}
use Rattle.erm_core_ready.specs.declared.Least.{Least}
use Rattle.erm_core_stall.specs.Waiting.{GoesOn, IsLeastPending, IsLeastSealed, IsPending, IsSealedAt, IsSealing, IsUnfinished, NoneSealed, NoneSeals, OnlyPending, TurnsOn}

-- each transaction, and each pin, is over
abbrev pub AllOver : Core → Type 0
AllOver c = (p : ℕ) → IsUnfinished (c.seats p).place → ⊥

-- its transaction, or pin, isn't over, and is no snapshot that looks whether it is safe
abbrev pub IsActing : Core → ℕ → Type 0
IsActing c p = IsUnfinished (c.seats p).place × (IsPending (c.seats p).task → ⊥)

-- The seat's next event isn't a wait: it seals; where none seals it is the least sealed one, or takes the turn that makes room in the
-- ring for that one's block; where none is sealed it begins, or is active, and doesn't look whether its snapshot is safe; and where all
-- look so, it has the least begin stamp.
pub data IsNext (c : Core) (seat : ℕ) : Type 0 where
  seals : IsSealing (c.seats seat).place → GoesOn c seat → IsNext c seat
  settles : (stamp : ℕ) → NoneSeals c → IsLeastSealed c seat stamp → GoesOn c seat → IsNext c seat
  flushes : (p stamp : ℕ) → NoneSeals c → IsLeastSealed c p stamp → has_room c.shared.flushed (c.seats p).current ≡ false
      → seat ≡ FLUSH_SEAT → TurnsOn c → IsNext c seat
  acts : NoneSeals c → NoneSealed c → IsActing c seat → GoesOn c seat → IsNext c seat
  looks : NoneSeals c → NoneSealed c → OnlyPending c → IsLeastPending c seat → GoesOn c seat → IsNext c seat

-- the seat is sealed at this stamp; it isn't over, and begins at this one
abbrev pub HasStamp : Core → ℕ → ℕ → Type 0
HasStamp c q s = IsSealedAt s (c.seats q).place

abbrev pub HasBegin : Core → ℕ → ℕ → Type 0
HasBegin c q s = IsUnfinished (c.seats q).place × (s ≡ (c.seats q).current.begin)

-- the least stamp among the seats below a number that have one, if one of them has; of equal ones the lowest seat's
pub record IsLeastBelow (has : ℕ → ℕ → Type 0) (bound : ℕ) (found : Least) : Type 0 where
  pub within : found.seat < ANNOUNCERS
  pub below : found.seat < bound
  pub there : has found.seat found.stamp
  pub least : (q s : ℕ) → q < bound → has q s → found.stamp ≤ s
  pub lowest : (q : ℕ) → q < bound → has q found.stamp → found.seat ≤ q

abbrev pub FoundBelow : (ℕ → ℕ → Type 0) → ℕ → Option Least → Type 0
FoundBelow has bound found = MatchOption found ((q s : ℕ) → q < bound → has q s → ⊥) (IsLeastBelow has bound)

-- a stamp that a seat has, if it has one
abbrev pub FoundAt : (ℕ → ℕ → Type 0) → ℕ → Option ℕ → Type 0
FoundAt has seat found = MatchOption found ((s : ℕ) → has seat s → ⊥) (has seat)
