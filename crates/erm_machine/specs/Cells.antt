-- Cells: each cell drawn is in one place.
use Rattle.std.specs.Prelude.{◌≡◌, ℕ, ◌+◌, ◌<◌, ◌==◌, nat_lt, true, ◌&&◌, if◌then◌else◌, drop, length, count_by, is_none, None}
use Rattle.erm_machine.specs.declared.limits.TheConstants.{ANNOUNCERS, OBJECT_LIMIT}
use Rattle.erm_machine.specs.declared.part.Part.{Part}
use Rattle.erm_machine.specs.declared.task.Task.{Task}
use Rattle.erm_machine.specs.declared.task.Task.TheVariants as task
use Rattle.erm_machine.specs.Core.{Object, Shared, claim_at}
use Rattle.erm_machine.specs.Facts.{total}
use Rattle.erm_machine.specs.Seat.{is_own, last_claim}

-- how often a cell stands among a seat's own: the spare ones and those of its claims
abbrev pub own_times : ℕ → Part → ℕ
own_times cell x = count_by (λ own. own.cell == cell) x.spare + count_by (λ w. is_own cell w.own) x.current.writes

-- how often it stands in an object's chain
abbrev pub chain_times : ℕ → Object → ℕ
chain_times cell o = count_by (λ v. v.cell == cell) (drop o.cut o.versions)

-- Each cell drawn stands once, in one chain or among one seat's own; one that isn't drawn stands nowhere.
pub record Cells (s : Shared) (seats : ℕ → Part) : Type 0 where
  pub once : (cell : ℕ) → total (chain_times cell) OBJECT_LIMIT s.objects + total (own_times cell) ANNOUNCERS seats
      ≡ (if nat_lt cell s.cells_drawn && nat_lt cell s.cell_limit then 1 else 0)

-- the newest claim is still without a cell
abbrev pub WantsCell : Part → Task → Type 0
WantsCell x task.Draws = (0 < length x.current.writes) × (is_none (claim_at x.current (last_claim x.current)).own ≡ true)
WantsCell x task.Pool = (0 < length x.current.writes) × (is_none (claim_at x.current (last_claim x.current)).own ≡ true)
WantsCell x task.Refused = (0 < length x.current.writes) × (is_none (claim_at x.current (last_claim x.current)).own ≡ true)
WantsCell x _ = Unit {0}

-- where the newest claim may still be without a cell
abbrev pub MayWant : Task → Type 0
MayWant (task.Claimed version) = Unit {0}
MayWant (task.Horizon version least next) = Unit {0}
MayWant (task.CutWalks version horizon) = Unit {0}
MayWant (task.CutPassed version horizon) = Unit {0}
MayWant (task.CutFound version horizon) = Unit {0}
MayWant (task.Detaches version) = Unit {0}
MayWant task.Draws = Unit {0}
MayWant task.Pool = Unit {0}
MayWant task.Refused = Unit {0}
MayWant _ = ⊥

-- Each claim that is held has its own cell, but for the newest one while it is made.
pub record OwnCells (x : Part) : Type 0 where
  pub wants : WantsCell x x.task
  pub bare : (k : ℕ) → k < length x.current.writes → (claim_at x.current k).held ≡ true → (claim_at x.current k).own ≡ None
      → (k ≡ last_claim x.current) × MayWant x.task
