-- Words in which the sound state is said.
use Rattle.std.specs.Prelude.{◌≡◌, ◌≢◌, ℕ, zero, suc, ◌+◌, ◌<◌, true, List, [], ◌∷◌, ◌++◌}
use Rattle.erm_model.specs.Member.{◌∈◌}
use Rattle.erm_machine.specs.declared.attempt.Attempt.{Attempt}
use Rattle.erm_machine.specs.declared.attempt.Claim.{Claim}
use Rattle.erm_machine.specs.declared.attempt.Decision.TheVariants.{Undecided, Abort}
use Rattle.erm_machine.specs.declared.part.Part.{Part}
use Rattle.erm_machine.specs.declared.place.Place.{Place}
use Rattle.erm_machine.specs.declared.place.Place.TheVariants.{Vacant, Idle, Begun, Announced, Active, Sealing, Drawn, Sealed, Decided, Leaving}
use Rattle.erm_machine.specs.declared.task.Task.{Task}
use Rattle.erm_machine.specs.declared.task.Task.TheVariants as task
use Rattle.erm_machine.specs.Core.{blank}

-- the sum of a number over the seats, or the objects, below a bound
unfoldable pub total : {X : Type 0} → (X → ℕ) → ℕ → (ℕ → X) → ℕ
total f zero xs = 0
total f (suc n) xs = total f n xs + f (xs n)

-- all transactions of a seat, the current one last
abbrev pub all_of : Part → List Attempt
all_of x = x.over ++ x.current ∷ []

-- a transaction that has no range yet
pub record IsUnsealed (t : Attempt) : Type 0 where
  pub stamp : t.stamp ≡ 0
  pub decision : t.decision ≡ Undecided

-- a transaction whose range begins there, which isn't decided yet
pub record IsUndecided (stamp : ℕ) (t : Attempt) : Type 0 where
  pub stamp_is : t.stamp ≡ stamp
  pub positive : 0 < stamp
  pub decision : t.decision ≡ Undecided

-- a transaction whose range begins there, which is decided
pub record IsDecided (stamp : ℕ) (t : Attempt) : Type 0 where
  pub stamp_is : t.stamp ≡ stamp
  pub positive : 0 < stamp
  pub decision : t.decision ≢ Undecided
  pub kept : t.decision ≢ Abort

-- the current transaction is as the seat's place says
abbrev pub IsCurrent : Place → Attempt → Type 0
IsCurrent Vacant t = t ≡ blank
IsCurrent Idle t = t ≡ blank
IsCurrent (Begun tail) t = t ≡ blank
IsCurrent (Announced tail) t = t ≡ blank
IsCurrent (Active tail) t = IsUnsealed t
IsCurrent (Sealing tail) t = IsUnsealed t
IsCurrent (Drawn tail stamp) t = IsUndecided stamp t
IsCurrent (Sealed tail stamp) t = IsUndecided stamp t
IsCurrent (Decided tail stamp) t = IsDecided stamp t
IsCurrent (Leaving stamp) t = IsDecided stamp t

-- the seat has a begin stamp, and its begin word isn't cleared yet
abbrev pub HasBegun : Place → Type 0
HasBegun Vacant = ⊥
HasBegun Idle = ⊥
HasBegun (Begun tail) = ⊥
HasBegun (Announced tail) = ⊥
HasBegun (Active tail) = Unit {0}
HasBegun (Sealing tail) = Unit {0}
HasBegun (Drawn tail stamp) = Unit {0}
HasBegun (Sealed tail stamp) = Unit {0}
HasBegun (Decided tail stamp) = Unit {0}
HasBegun (Leaving stamp) = ⊥

-- the current transaction claims an object, and has neither installed nor released it
abbrev pub Holds : Part → ℕ → Type 0
Holds x oid = (w : Claim) × (w ∈ x.current.writes) × (w.held ≡ true) × (w.version.oid ≡ oid)

-- the current transaction has a range below the bound and holds a claim on the object
abbrev pub HoldsBelow : Part → ℕ → ℕ → Type 0
HoldsBelow x oid bound = (0 < x.current.stamp) × (x.current.stamp < bound) × Holds x oid

-- how many claims of the current transaction are over
abbrev pub over_of : Place → Task → ℕ → ℕ
over_of (Leaving stamp) t writes = writes
over_of p (task.Ends raised ended step cleared) writes = ended
over_of p t writes = 0
