-- Begins: announced begins and the horizon of a cut.
use Rattle.std.specs.Prelude.{ℕ, ◌<◌, ◌≤◌, Option, Some, None}
use Rattle.erm_machine.specs.declared.limits.TheConstants.{ANNOUNCERS}
use Rattle.erm_machine.specs.declared.part.Part.{Part}
use Rattle.erm_machine.specs.declared.place.Place.{Place}
use Rattle.erm_machine.specs.declared.place.Place.TheVariants.{Vacant, Idle, Begun, Announced, Active, Sealing, Drawn, Sealed, Decided, Leaving}
use Rattle.erm_machine.specs.declared.task.Task.{Task}
use Rattle.erm_machine.specs.declared.task.Task.TheVariants as task
use Rattle.erm_machine.specs.Core.{Shared}
use Rattle.erm_machine.specs.Facts.{HasBegun}

-- a tail that was loaded
abbrev pub IsTail : ℕ → ℕ → Type 0
IsTail tail now = (0 < tail) × (tail ≤ now)

-- a tail that was announced before the begin stamp was loaded; a commit stamp was drawn after that
pub record IsBegin (tail begin now : ℕ) : Type 0 where
  pub positive : 0 < tail
  pub announced : tail ≤ begin
  pub past : begin ≤ now

pub record IsSealedBegin (tail begin stamp now : ℕ) : Type 0 where
  pub is_begin : IsBegin tail begin now
  pub sealed : begin ≤ stamp
  pub drawn : stamp < now

-- From the second load of the tail until it is cleared, a begin word isn't 0 and is at most the begin stamp, which is at
-- most a commit stamp and the tail.
abbrev pub BeginsAt : Place → ℕ → ℕ → Type 0
BeginsAt Vacant begin now = Unit {0}
BeginsAt Idle begin now = Unit {0}
BeginsAt (Begun tail) begin now = IsTail tail now
BeginsAt (Announced tail) begin now = IsTail tail now
BeginsAt (Active tail) begin now = IsBegin tail begin now
BeginsAt (Sealing tail) begin now = IsBegin tail begin now
BeginsAt (Drawn tail stamp) begin now = IsSealedBegin tail begin stamp now
BeginsAt (Sealed tail stamp) begin now = IsSealedBegin tail begin stamp now
BeginsAt (Decided tail stamp) begin now = IsSealedBegin tail begin stamp now
BeginsAt (Leaving stamp) begin now = (begin ≤ stamp) × (stamp < now)

-- a cutter's least number so far, and the seat that it comes to next
abbrev pub horizon_of : Task → Option (ℕ × ℕ)
horizon_of (task.Horizon version least next) = Some (least, next)
horizon_of (task.CutWalks version horizon) = Some (horizon, ANNOUNCERS)
horizon_of (task.CutPassed version horizon) = Some (horizon, ANNOUNCERS)
horizon_of (task.CutFound version horizon) = Some (horizon, ANNOUNCERS)
horizon_of _ = None

-- the least so far is at most the begin stamp of a seat that was passed
abbrev pub IsBelowBegin : Option (ℕ × ℕ) → ℕ → Place → ℕ → Type 0
IsBelowBegin None q p begin = Unit {0}
IsBelowBegin (Some h) q p begin = q < h.1 → HasBegun p → h.0 ≤ begin

-- the least so far is at most the tail
abbrev pub IsBelowTail : Option (ℕ × ℕ) → ℕ → Type 0
IsBelowTail None now = Unit {0}
IsBelowTail (Some h) now = h.0 ≤ now

-- a seat's own begin, and its horizon against the tail and its own begin stamp
pub record OwnBegins (s : Shared) (seat : ℕ) (x : Part) : Type 0 where
  pub begins : BeginsAt x.place x.current.begin s.tail
  pub least : IsBelowTail (horizon_of x.task) s.tail
  pub own : IsBelowBegin (horizon_of x.task) seat x.place x.current.begin

-- a cutter's least so far is at most the begin stamp of each other seat that it has passed
pub record Begins (x : Part) (q : ℕ) (y : Part) : Type 0 where
  pub passed : IsBelowBegin (horizon_of x.task) q y.place y.current.begin
