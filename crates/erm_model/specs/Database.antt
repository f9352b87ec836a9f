-- The database map: a finite map from a table and a key to the bytes of a value.
use Rattle.std.specs.Prelude.{◌≡◌, ℕ, ◌<◌, ◌≤◌, ◌^◌, List, map, Option, Some, None, refl}
use Rattle.std.specs.List.{All, AllPairs}
use Rattle.erm_model.specs.Member.{◌∈◌}
use Rattle.std.specs.declared.cmp.Ordering.{Ordering}
use Rattle.std.specs.declared.cmp.Ordering.TheVariants.{Less}
use Rattle.std.specs.Ordering.{nat_cmp, ordering_then}
use Rattle.std.specs.Coded.{Coded, code_by, coded×, coded_ℕ}
use Rattle.std.specs.FinMap.{FinMap, get}
use Rattle.erm_model.specs.declared.key.Key.{Key}
use Rattle.erm_model.specs.declared.map.Pair.{Pair}

-- by table, then by key
abbrev pub key_cmp : Key → Key → Ordering
key_cmp a b = ordering_then (nat_cmp a.table b.table) (nat_cmp a.key b.key)

-- a key is stored as the pair of its fields
abbrev pub key_code : Coded Key
key_code =
    code_by (ℕ × ℕ) (coded× coded_ℕ coded_ℕ) (λ k. (k.table, k.key)) (λ p. record { table = p.0; key = p.1 }) (λ _. refl)

-- a database map
abbrev pub Database : Type 0
Database = FinMap key_cmp (List ℕ)

-- the key of a table
abbrev pub at : ℕ → ℕ → Key
at table key = record { table = table; key = key }

-- the value of a key of a table, if it has one
abbrev pub value_at : Database → ℕ → ℕ → Option (List ℕ)
value_at m table key = get m (at table key)

-- The least key of the table, at or above from and below 2 ^ 64, that has a value is this one, and this is its value; or there is none.
abbrev pub IsNextAt : Database → ℕ → ℕ → Option (ℕ × List ℕ) → Type 0
IsNextAt m table from None = (k : ℕ) → from ≤ k → k < 2 ^ 64 → value_at m table k ≡ None
IsNextAt m table from (Some found) = (from ≤ found.0) × (found.0 < 2 ^ 64) × (value_at m table found.0 ≡ Some found.1) × ((k : ℕ) → from ≤ k → k < found.0 → value_at m table k ≡ None)

-- These are the keys of the table from low to high, both too, that have a value, each once and ascending, with their values.
pub record AreFound (m : Database) (table low high : ℕ) (found : List (ℕ × List ℕ)) : Type 0 where
  pub ascend : AllPairs (λ a b. a.0 < b.0) found
  pub within : All (λ pair. (low ≤ pair.0) × (pair.0 ≤ high) × (pair.0 < 2 ^ 64) × (value_at m table pair.0 ≡ Some pair.1)) found
  pub all : (key : ℕ) (value : List ℕ) → low ≤ key → key ≤ high → key < 2 ^ 64 → value_at m table key ≡ Some value → (key, value) ∈ found

-- pairs as keys with the bytes of their values
abbrev pub entries_of : List Pair → List (Key × List ℕ)
entries_of pairs = map (λ pair. (pair.key, pair.value)) pairs

-- the keys of the pairs ascend: by table, then by key
abbrev pub AscendByKey : List Pair → Type 0
AscendByKey pairs = AllPairs (λ a b. key_cmp a.key b.key ≡ Less) pairs
