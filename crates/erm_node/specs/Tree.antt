-- Trees of rows: B+-trees of one depth (Bayer and McCreight, 1972), read from a root down. A record is the tree of no
-- levels, so that leaves and inner nodes are one case. Bounds are numbers up to 2 ^ 64, the upper one not reached.
use Rattle.std.specs.Prelude.{◌≡◌, ℕ, zero, suc, ◌+◌, ◌<◌, ◌≤◌, ◌==◌, if◌then◌else◌, Bool, true, false, List, [], ◌∷◌, length, flat_map, Some}
use Rattle.erm_model.specs.Rows.{Rows}
use Rattle.erm_record.specs.Record.{IsRecord}
use Rattle.erm_node.specs.declared.node.TheConstants.{LEAST_PAIRS}
use Rattle.erm_node.specs.Node.{node_of, pairs_of}

-- the first key of pairs, or where there is none this number
abbrev pub first_key : List (ℕ × ℕ) → ℕ → ℕ
first_key [] other = other
first_key (pair ∷ pairs) other = pair.0

-- Each pair has its range of keys, which isn't empty: from its own key up to the next one's, the last one's up to hi. Of its
-- object and this range P holds.
abbrev pub Fan : (ℕ → ℕ → ℕ → Type 0) → List (ℕ × ℕ) → ℕ → Type 0
Fan P [] hi = Unit {0}
Fan P (pair ∷ pairs) hi = P pair.1 pair.0 (first_key pairs hi) × (pair.0 < first_key pairs hi) × Fan P pairs hi

-- where the keys of a node start: in a leaf at or above the lower bound, in an inner node just there
abbrev pub Starts : Bool → ℕ → ℕ → Type 0
Starts true lo key = lo ≤ key
Starts false lo key = key ≡ lo

-- the row of an object is a node of this kind, with so many pairs at least, between these bounds, and of each pair P holds
pub record IsNodeOver (rows : Rows) (leaf : Bool) (least : ℕ) (P : ℕ → ℕ → ℕ → Type 0) (oid lo hi : ℕ) : Type 0 where
  pub node : node_of (rows oid) ≡ Some (record { leaf = leaf; pairs = pairs_of (rows oid) })
  pub enough : least ≤ length (pairs_of (rows oid))
  pub starts : Starts leaf lo (first_key (pairs_of (rows oid)) lo)
  pub fan : Fan P (pairs_of (rows oid)) hi

-- At an object stands a tree with so many levels of nodes, whose keys lie from lo up to hi. At its root it has so many pairs at
-- least; in every other node that is LEAST_PAIRS.
abbrev pub IsTree : Rows → ℕ → ℕ → ℕ → ℕ → ℕ → Type 0
IsTree rows zero least oid lo hi = IsRecord (rows oid)
IsTree rows (suc levels) least oid lo hi =
    IsNodeOver rows (levels == 0) least (λ child from to. IsTree rows levels LEAST_PAIRS child from to) oid lo hi

-- the entries of the tree at an object, with so many levels of nodes, from lo on: each key with its record, in order
abbrev pub entries : Rows → ℕ → ℕ → ℕ → List (ℕ × ℕ)
entries rows zero oid lo = (lo, oid) ∷ []
entries rows (suc levels) oid lo = flat_map (λ pair. entries rows levels pair.1 pair.0) (pairs_of (rows oid))

-- the keys of entries ascend strictly, from lo on and below hi
abbrev pub AscendWithin : ℕ → List (ℕ × ℕ) → ℕ → Type 0
AscendWithin lo [] hi = Unit {0}
AscendWithin lo (entry ∷ entries) hi = (lo ≤ entry.0) × (entry.0 < hi) × AscendWithin (suc entry.0) entries hi

-- the sum of f over a list
abbrev pub total : {X : Type 0} → (X → ℕ) → List X → ℕ
total f [] = 0
total f (x ∷ xs) = f x + total f xs

-- 1 for the same object, 0 for another
abbrev pub same_oid : ℕ → ℕ → ℕ
same_oid oid x = if x == oid then 1 else 0

-- how often the tree at an object, with so many levels of nodes, reaches the object x
abbrev pub times : Rows → ℕ → ℕ → ℕ → ℕ
times rows zero oid x = same_oid oid x
times rows (suc levels) oid x = same_oid oid x + total (λ pair. times rows levels pair.1 x) (pairs_of (rows oid))
