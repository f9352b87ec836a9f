-- What a walk over trees finds, which marks each object that it reaches. Between the parts of the test of sound rows.
use Rattle.std.specs.Prelude.{◌≡◌, ℕ, ◌+◌, ◌≤◌, if◌then◌else◌, Bool, false, List, slice_index_or}
use Rattle.erm_model.specs.declared.limits.TheConstants.{OID_LIMIT}
use Rattle.erm_model.specs.Rows.{Rows}
use Rattle.erm_node.specs.declared.node.TheConstants.{LEAST_PAIRS}
use Rattle.erm_node.specs.Tree.{Fan, IsTree, times, total}

-- how often an object is marked: at most once
abbrev pub marked : List Bool → ℕ → ℕ
marked marks x = if slice_index_or marks x false then 1 else 0

-- At an object stands a tree that reaches none of the objects reached before, none twice, and none that there may not be.
pub record IsFreeTree (rows : Rows) (before : ℕ → ℕ) (levels least oid lo hi : ℕ) : Type 0 where
  pub tree : IsTree rows levels least oid lo hi
  pub once : (x : ℕ) → before x + times rows levels oid x ≤ 1
  pub bounded : (x : ℕ) → OID_LIMIT ≤ x → times rows levels oid x ≡ 0

-- so do the trees of pairs, one beside the other
pub record IsFreeFan (rows : Rows) (before : ℕ → ℕ) (levels : ℕ) (pairs : List (ℕ × ℕ)) (hi : ℕ) : Type 0 where
  pub fan : Fan (λ child from to. IsTree rows levels LEAST_PAIRS child from to) pairs hi
  pub once : (x : ℕ) → before x + total (λ pair. times rows levels pair.1 x) pairs ≤ 1
  pub bounded : (x : ℕ) → OID_LIMIT ≤ x → total (λ pair. times rows levels pair.1 x) pairs ≡ 0
