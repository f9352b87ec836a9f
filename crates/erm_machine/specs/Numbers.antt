-- Numbers: what was drawn from the counters.
use Rattle.std.specs.Prelude.{◌≡◌, ◌≢◌, ℕ, ◌+◌, ◌<◌, ◌≤◌, false, List, [], ◌++◌, length, slice_index, flat_map}
use Rattle.erm_model.specs.Member.{◌∈◌}
use Rattle.erm_machine.specs.declared.limits.TheConstants.{ANNOUNCERS, MOST_CELLS, OBJECT_LIMIT}
use Rattle.erm_machine.specs.declared.part.Part.{Part}
use Rattle.erm_machine.specs.declared.task.Task.{Task}
use Rattle.erm_machine.specs.declared.task.Task.TheVariants as task
use Rattle.erm_machine.specs.Core.{Shared}
use Rattle.erm_machine.specs.Facts.{total}
use Rattle.erm_machine.specs.Words.{is_session}

-- 1 where a seat has seen the counter of objects, of cells, below its limit and is to raise it, else 0
abbrev pub numbers : Task → ℕ
numbers task.Numbers = 1
numbers _ = 0

abbrev pub pools : Task → ℕ
pools task.Pool = 1
pools _ = 0

-- the objects that a seat's transactions made, in order
abbrev pub made_of : Part → List ℕ
made_of x = flat_map (λ t. t.made) x.over ++ x.current.made

-- some seat made the object
abbrev pub IsMade : (ℕ → Part) → ℕ → Type 0
IsMade seats oid = (seat : ℕ) × (oid ∈ made_of (seats seat))

-- The counters stand at most so far above their limits that each seat may raise them once more; that of objects began at the
-- opening's first number, and each number drawn below the limit was made. Numbers of cells have 24 bits.
pub record Counters (s : Shared) (seats : ℕ → Part) : Type 0 where
  pub limit : s.cell_limit ≤ MOST_CELLS
  pub first : s.first ≤ s.objects_drawn
  pub objects : s.objects_drawn + total (λ x. numbers x.task) ANNOUNCERS seats ≤ OBJECT_LIMIT + ANNOUNCERS
  pub cells : s.cells_drawn + total (λ x. pools x.task) ANNOUNCERS seats ≤ s.cell_limit + ANNOUNCERS
  pub all_made : (oid : ℕ) → s.first ≤ oid → oid < s.objects_drawn → oid < OBJECT_LIMIT → IsMade seats oid

-- What a seat made was drawn, from the opening's first number on, each number once. Sessions alone make objects.
pub record OwnMade (s : Shared) (seat : ℕ) (x : Part) : Type 0 where
  pub from : (k : ℕ) → k < length (made_of x) → s.first ≤ slice_index (made_of x) k
  pub drawn : (k : ℕ) → k < length (made_of x) → slice_index (made_of x) k < s.objects_drawn
  pub once : (j k : ℕ) → j < k → k < length (made_of x) → slice_index (made_of x) j ≢ slice_index (made_of x) k
  pub maker : is_session seat ≡ false → made_of x ≡ []

-- no object was made by two seats
pub record MadeApart (x y : Part) : Type 0 where
  pub apart : (j k : ℕ) → j < length (made_of x) → k < length (made_of y) → slice_index (made_of x) j ≢ slice_index (made_of y) k
