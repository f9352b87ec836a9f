-- The database map that rows stand for.
use Rattle.std.specs.Prelude.{ℕ, zero, suc, nat_eq, List, [], ◌∷◌, ◌++◌, filter_map, Option, option_map, option_and_then}
use Rattle.std.specs.Map.{lookup}
use Rattle.std.specs.FinMap.{from_entries, insert}
use Rattle.erm_model.specs.declared.key.Key.{Key}
use Rattle.erm_model.specs.declared.limits.TheConstants.{TABLES}
use Rattle.erm_model.specs.Database.{Database, at}
use Rattle.erm_model.specs.Rows.{Rows}
use Rattle.erm_record.specs.Record.{record_value}
use Rattle.erm_node.specs.Tree.{entries}
use Rattle.erm_node.specs.Sound.{levels_of}

-- the entries of a table: each key with its record, in order
abbrev pub table_entries : Rows → ℕ → List (ℕ × ℕ)
table_entries rows table = entries rows (levels_of rows table) table 0

-- the record of a key of a table, if it has an entry
abbrev pub record_in : Rows → ℕ → ℕ → Option ℕ
record_in rows table key = lookup (nat_eq key) (table_entries rows table)

-- the value of a key of a table: that of its record
abbrev pub value_in : Rows → ℕ → ℕ → Option (List ℕ)
value_in rows table key = option_and_then (λ oid. record_value (rows oid)) (record_in rows table key)

-- the key of an entry with its record's value, where it has one
abbrev pub entry_value : Rows → ℕ → ℕ × ℕ → Option (Key × List ℕ)
entry_value rows table entry = option_map (λ value. (at table entry.0, value)) (record_value (rows entry.1))

-- the keys of a tree that have a value, with it, in order: the tree of a table at an object, with so many levels of nodes, from
-- lo on
abbrev pub tree_values : Rows → ℕ → ℕ → ℕ → ℕ → List (Key × List ℕ)
tree_values rows table levels oid lo = filter_map (λ entry. entry_value rows table entry) (entries rows levels oid lo)

-- those of the tables below a number
abbrev pub values_below : Rows → ℕ → List (Key × List ℕ)
values_below rows zero = []
values_below rows (suc table) = values_below rows table ++ tree_values rows table (levels_of rows table) table 0

-- the database map of sound rows: each key of each table whose record has a value, with it
unfoldable pub map_of_rows : Rows → Database
map_of_rows rows = from_entries (values_below rows TABLES)

-- a database map with these values besides
abbrev pub with_values : List (Key × List ℕ) → Database → Database
with_values [] m = m
with_values (value ∷ values) m = insert (with_values values m) value.0 value.1
