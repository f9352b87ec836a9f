-- The leaf for a key: what a walk from a table's root down finds. This project's own.
use Rattle.std.specs.Prelude.{◌≡◌, ℕ, ◌-◌, ◌^◌, ◌<◌, ◌≤◌, nat_eq, nat_le, List, Option, Some, None, IfSome}
use Rattle.std.specs.List.{prefix_len}
use Rattle.std.specs.Map.{lookup}
use Rattle.erm_model.specs.declared.limits.TheConstants.{OID_LIMIT}
use Rattle.erm_model.specs.Database.{IsNextAt}
use Rattle.erm_model.specs.Rows.{Rows}
use Rattle.erm_record.specs.Record.{IsRecord}
use Rattle.erm_node.specs.Tree.{Fan, first_key}
use Rattle.erm_node.specs.TreeMap.{map_of_rows, record_in, value_in}
use Rattle.erm_tree.specs.Reads.{IsMetIn}

-- how many pairs have keys up to this one, from the first on
abbrev pub rank : ℕ → List (ℕ × ℕ) → ℕ
rank key pairs = prefix_len (λ pair. nat_le pair.0 key) pairs

-- where a range of keys ends: at a key, or behind the greatest one
abbrev pub bound_of : Option ℕ → ℕ
bound_of None = 2 ^ 64
bound_of (Some key) = key

-- The object is the record of a key of the table, and no key up to `to` besides has one.
pub record IsEntry (rows : Rows) (table oid key to : ℕ) : Type 0 where
  pub entry : record_in rows table key ≡ Some oid
  pub alone : (k : ℕ) → key < k → k < to → record_in rows table k ≡ None
  pub record_row : IsRecord (rows oid)
  pub bounded : oid < OID_LIMIT
  pub met : (low high : ℕ) → low ≤ key → key ≤ high → IsMetIn rows table low high oid

-- pairs are all entries of the table whose keys lie in a range up to `to`, in which this key is
pub record IsLeafFor (rows : Rows) (table key : ℕ) (pairs : List (ℕ × ℕ)) (to : ℕ) : Type 0 where
  pub from : ℕ
  pub low : from ≤ key
  pub high : key < to
  pub top : to ≤ 2 ^ 64
  pub found : (k : ℕ) → from ≤ k → k < to → record_in rows table k ≡ lookup (nat_eq k) pairs
  pub below : (k : ℕ) → from ≤ k → k < first_key pairs to → record_in rows table k ≡ None
  pub entries : Fan (λ oid from to. IsEntry rows table oid from to) pairs to

-- this is the record of a key of the table, or there is none, and if there is one, what a reader of it needs
pub record IsRecordFor (rows : Rows) (table key : ℕ) (found : Option ℕ) : Type 0 where
  pub is : found ≡ record_in rows table key
  pub there : IfSome found (λ oid. IsRecord (rows oid) × (oid < OID_LIMIT) × IsMetIn rows table key key oid)

-- no key of the table in this range has a value
abbrev pub HasNoValueIn : Rows → ℕ → ℕ → ℕ → Type 0
HasNoValueIn rows table from to = (k : ℕ) → from ≤ k → k < to → value_in rows table k ≡ None

-- this is the first key of the table in the range that has a value, and its value; or there is none
abbrev pub IsFirstIn : Rows → ℕ → ℕ → ℕ → Option (ℕ × List ℕ) → Type 0
IsFirstIn rows table from to None = HasNoValueIn rows table from to
IsFirstIn rows table from to (Some found) = (from ≤ found.0) × (found.0 < to) × (value_in rows table found.0 ≡ Some found.1) × HasNoValueIn rows table from found.0

-- the last key that a look up to `to` for the first key with a value goes to
abbrev pub last_sought : ℕ → Option (ℕ × List ℕ) → ℕ
last_sought to None = to - 1
last_sought to (Some found) = found.0

-- if the pairs are a leaf of some table, x is met in that table from `low` to `high`
abbrev pub IsOfLeaf : Rows → ℕ → List (ℕ × ℕ) → ℕ → ℕ → ℕ → Type 0
IsOfLeaf rows low pairs to high x = (table : ℕ) → IsLeafFor rows table low pairs to → IsMetIn rows table low high x

-- if the pairs are a leaf of some table, x is met in that table from `low` up to the first key of the leaf that has a value, or to
-- the leaf's end
abbrev pub IsMetByFirst : ℕ → List (ℕ × ℕ) → ℕ → Rows → ℕ → Type 0
IsMetByFirst low pairs to rows x =
    (table : ℕ) (found : Option (ℕ × List ℕ)) → IsLeafFor rows table low pairs to → IsFirstIn rows table low to found → IsMetIn rows table low (last_sought to found) x

-- x is met in a table from `from` up to the next key that has a value, or to the greatest key where there is none
abbrev pub IsMetByNext : ℕ → ℕ → Rows → ℕ → Type 0
IsMetByNext table from rows x = (found : Option (ℕ × List ℕ)) × IsNextAt (map_of_rows rows) table from found × IsMetIn rows table from (last_sought (2 ^ 64) found) x
