-- The objects that a look for keys reads: nodes whose bounds meet the keys, and records of these keys. This project's own.
use Rattle.std.specs.Prelude.{◌≡◌, Bool, true, false, ℕ, zero, suc, ◌^◌, ◌<◌, ◌≤◌, ◌⊎◌, List, [], ◌∷◌}
use Rattle.erm_model.specs.Rows.{Rows}
use Rattle.erm_node.specs.Node.{pairs_of}
use Rattle.erm_node.specs.Tree.{first_key}
use Rattle.erm_node.specs.Sound.{levels_of}

-- of some pair's object and range P holds
abbrev pub AnyOfFan : (ℕ → ℕ → ℕ → Type 0) → List (ℕ × ℕ) → ℕ → Type 0
AnyOfFan P [] hi = ⊥
AnyOfFan P (pair ∷ pairs) hi = P pair.1 pair.0 (first_key pairs hi) ⊎ AnyOfFan P pairs hi

-- In the tree at an object, with so many levels of nodes and its keys from lo up to hi, x is a node whose bounds meet the keys
-- from low to high or, where records count too, the record of one of these keys.
abbrev pub IsMet : Bool → Rows → ℕ → ℕ → ℕ → ℕ → ℕ → ℕ → ℕ → Type 0
IsMet records rows low high zero oid lo hi x = (records ≡ true) × (x ≡ oid) × (low ≤ lo) × (lo ≤ high)
IsMet records rows low high (suc levels) oid lo hi x =
    (low < hi) × (lo ≤ high) × ((x ≡ oid) ⊎ AnyOfFan (λ child from to. IsMet records rows low high levels child from to x) (pairs_of (rows oid)) hi)

-- x is such an object of the tree of a table: a node, or a record
abbrev pub IsMetIn : Rows → ℕ → ℕ → ℕ → ℕ → Type 0
IsMetIn rows table low high x = IsMet true rows low high (levels_of rows table) table 0 (2 ^ 64) x

-- x is such a node of the tree of a table
abbrev pub IsNodeMetIn : Rows → ℕ → ℕ → ℕ → ℕ → Type 0
IsNodeMetIn rows table low high x = IsMet false rows low high (levels_of rows table) table 0 (2 ^ 64) x

-- x is a node of a table on the way to a key
abbrev pub IsOnWay : ℕ → ℕ → Rows → ℕ → Type 0
IsOnWay table key rows x = IsNodeMetIn rows table key key x

-- x is such a node, or the key's record
abbrev pub IsSought : ℕ → ℕ → Rows → ℕ → Type 0
IsSought table key rows x = IsMetIn rows table key key x
