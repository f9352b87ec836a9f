-- The values of trees, from the last to the first.
use Rattle.std.proofs.Common.{◌≡◌, ℕ, zero, suc, ◌+◌, ◌-◌, ◌<◌, ◌≤◌, List, [], ◌∷◌, ◌++◌, Option, Some, None, get_or, length, drop, refl, sym, ap, ◌∙◌, drop-cons, arith}
use Rattle.std.specs.Prelude.{filter_map, flat_map, option_map, option_to_list}
use Rattle.std.specs.List.{cons_option}
use Rattle.std.specs.Option.{option_map_or}
use Rattle.std.specs.FinMap.{empty, from_entries, insert}
use Rattle.std.proofs.lemmas.List.Elements.{filter_map-append}
use Rattle.erm_model.specs.declared.key.Key.{Key}
use Rattle.erm_model.specs.Database.{Database, at}
use Rattle.erm_model.specs.Rows.{Rows}
use Rattle.erm_record.specs.Record.{record_value}
use Rattle.erm_node.specs.Node.{Shape, node_of, pairs_of}
use Rattle.erm_node.specs.Tree.{entries}
use Rattle.erm_node.specs.Sound.{levels_of}
use Rattle.erm_node.specs.TreeMap.{entry_value, map_of_rows, tree_values, values_below, with_values}
use Rattle.erm_node.proofs.Levels.{node_of-nil}

-- values in two parts
pub with_values-append : (a b : List (Key × List ℕ)) (m : Database) → with_values (a ++ b) m ≡ with_values a (with_values b m)
with_values-append [] b m = refl
with_values-append (value ∷ a) b m = ap (λ (n : Database). insert n value.0 value.1) (with_values-append a b m)

-- beside nothing else
pub with_values-empty : (a : List (Key × List ℕ)) → with_values a empty ≡ from_entries a
with_values-empty [] = refl
with_values-empty (value ∷ a) = ap (λ (n : Database). insert n value.0 value.1) (with_values-empty a)

-- the values of the trees of pairs
pub fan_values : Rows → ℕ → ℕ → List (ℕ × ℕ) → List (Key × List ℕ)
fan_values rows table levels pairs = filter_map (λ entry. entry_value rows table entry) (flat_map (λ pair. entries rows levels pair.1 pair.0) pairs)

-- no pairs, no values
pub fan_values-none : (rows : Rows) (table levels : ℕ) → fan_values rows table levels [] ≡ []
unfolding fan_values
fan_values-none rows table levels = refl

-- those of the first pair, and those of the others
pub fan_values-cons : (rows : Rows) (table levels : ℕ) (pair : ℕ × ℕ) (pairs : List (ℕ × ℕ)) → fan_values rows table levels (pair ∷ pairs) ≡ tree_values rows table levels pair.1 pair.0 ++ fan_values rows table levels pairs
unfolding fan_values
fan_values-cons rows table levels pair pairs =
    filter_map-append (λ (entry : ℕ × ℕ). entry_value rows table entry) (entries rows levels pair.1 pair.0) (flat_map (λ (pair : ℕ × ℕ). entries rows levels pair.1 pair.0) pairs)

cons_option-nil : (o : Option (Key × List ℕ)) → cons_option o [] ≡ option_to_list o
cons_option-nil None = refl
cons_option-nil (Some value) = refl

-- no levels: the value of a record
pub tree_values-record : (rows : Rows) (table levels oid lo : ℕ) (row : List ℕ) → levels ≡ 0 → rows oid ≡ row → tree_values rows table levels oid lo ≡ option_to_list (option_map (λ value. (at table lo, value)) (record_value row))
tree_values-record rows table zero oid lo row none is = cons_option-nil (option_map {T = List ℕ} {U = Key × List ℕ} (λ value. (at table lo, value)) (record_value (rows oid))) ∙ ap (λ (r : List ℕ). option_to_list (option_map {T = List ℕ} {U = Key × List ℕ} (λ value. (at table lo, value)) (record_value r))) is
tree_values-record rows table (suc levels) oid lo row none is = absurd (omega (arith, none))

pairs_of-node : (row : List ℕ) (shape : Shape) → node_of row ≡ Some shape → pairs_of row ≡ shape.pairs
unfolding pairs_of
pairs_of-node row shape is = ap (λ o. option_map_or (λ (shape : Shape). shape.pairs) o []) is

pairs_of-no_node : (row : List ℕ) → node_of row ≡ None → pairs_of row ≡ []
unfolding pairs_of
pairs_of-no_node row none = ap (λ o. option_map_or (λ (shape : Shape). shape.pairs) o []) none

-- levels: those of the node's pairs
pub tree_values-node : (rows : Rows) (table levels oid lo : ℕ) (row : List ℕ) (shape : Shape) → 0 < levels → rows oid ≡ row → node_of row ≡ Some shape → tree_values rows table levels oid lo ≡ fan_values rows table (levels - 1) shape.pairs
unfolding fan_values
tree_values-node rows table zero oid lo row shape some is node = absurd (omega (arith, some))
tree_values-node rows table (suc levels) oid lo row shape some is node =
    ap (λ (pairs : List (ℕ × ℕ)). filter_map (λ (entry : ℕ × ℕ). entry_value rows table entry) (flat_map (λ (pair : ℕ × ℕ). entries rows levels pair.1 pair.0) pairs)) (ap pairs_of is ∙ pairs_of-node row shape node)
    ∙ ap (λ (n : ℕ). filter_map (λ (entry : ℕ × ℕ). entry_value rows table entry) (flat_map (λ (pair : ℕ × ℕ). entries rows n pair.1 pair.0) shape.pairs)) (let e : levels ≡ suc levels - 1 = omega arith in e)

-- no node, no values
pub tree_values-no_node : (rows : Rows) (table levels oid lo : ℕ) → 0 < levels → node_of (rows oid) ≡ None → tree_values rows table levels oid lo ≡ []
tree_values-no_node rows table zero oid lo some none = absurd (omega (arith, some))
tree_values-no_node rows table (suc levels) oid lo some none =
    ap (λ (pairs : List (ℕ × ℕ)). filter_map (λ (entry : ℕ × ℕ). entry_value rows table entry) (flat_map (λ (pair : ℕ × ℕ). entries rows levels pair.1 pair.0) pairs)) (pairs_of-no_node (rows oid) none)

-- a row without words is no value's
pub record_value-nil : record_value [] ≡ None
unfolding record_value
record_value-nil = refl

-- no row, no values
pub tree_values-no_row : (rows : Rows) (table levels oid lo : ℕ) → rows oid ≡ [] → tree_values rows table levels oid lo ≡ []
tree_values-no_row rows table zero oid lo none = tree_values-record rows table zero oid lo [] refl none ∙ ap (λ (o : Option (List ℕ)). option_to_list (option_map {T = List ℕ} {U = Key × List ℕ} (λ value. (at table lo, value)) o)) record_value-nil
tree_values-no_row rows table (suc levels) oid lo none = tree_values-no_node rows table (suc levels) oid lo (omega arith) (ap node_of none ∙ node_of-nil)

-- the values from one pair on, on top of those from the next on
pub fan_values-drop : (rows : Rows) (table levels : ℕ) (pairs : List (ℕ × ℕ)) (i : ℕ) (m now : Database) → i < length pairs → now ≡ with_values (fan_values rows table levels (drop (i + 1) pairs)) m
    → with_values (tree_values rows table levels (get_or pairs i (0, 0)).1 (get_or pairs i (0, 0)).0) now ≡ with_values (fan_values rows table levels (drop i pairs)) m
fan_values-drop rows table levels pairs i m now below now_is =
    let pair = get_or pairs i (0, 0) in
    let here : drop i pairs ≡ pair ∷ drop (i + 1) pairs = drop-cons pairs i (0, 0) below ∙ ap (λ (n : ℕ). pair ∷ drop n pairs) (let e : suc i ≡ i + 1 = omega arith in e) in
    ap (with_values (tree_values rows table levels pair.1 pair.0)) now_is
    ∙ sym (with_values-append (tree_values rows table levels pair.1 pair.0) (fan_values rows table levels (drop (i + 1) pairs)) m)
    ∙ ap (λ (values : List (Key × List ℕ)). with_values values m) (sym (fan_values-cons rows table levels pair (drop (i + 1) pairs)) ∙ ap (fan_values rows table levels) (sym here))

-- the same where the loop goes down
pub fan_values-down : (rows : Rows) (table levels : ℕ) (pairs : List (ℕ × ℕ)) (i : ℕ) (m now : Database) → 1 ≤ i → i ≤ length pairs → now ≡ with_values (fan_values rows table levels (drop i pairs)) m
    → with_values (tree_values rows table levels (get_or pairs (i - 1) (0, 0)).1 (get_or pairs (i - 1) (0, 0)).0) now ≡ with_values (fan_values rows table levels (drop (i - 1) pairs)) m
fan_values-down rows table levels pairs i m now low high now_is =
    fan_values-drop rows table levels pairs (i - 1) m now (omega arith) (now_is ∙ ap (λ (n : ℕ). with_values (fan_values rows table levels (drop n pairs)) m) (let e : i ≡ i - 1 + 1 = omega arith in e))

-- the whole map, once the values of the tables from a number on are there
pub map_of_rows-is : (rows : Rows) → map_of_rows rows ≡ with_values (values_below rows 16) empty
unfolding map_of_rows
map_of_rows-is rows = sym (with_values-empty (values_below rows 16))

-- the values of one table more
pub values_below-table : (rows : Rows) (table : ℕ) (m now : Database) → map_of_rows rows ≡ with_values (values_below rows (table + 1)) m → now ≡ with_values (tree_values rows table (levels_of rows table) table 0) m
    → map_of_rows rows ≡ with_values (values_below rows table) now
values_below-table rows table m now before now_is =
    before ∙ ap (λ (n : ℕ). with_values (values_below rows n) m) (let e : table + 1 ≡ suc table = omega arith in e)
    ∙ with_values-append (values_below rows table) (tree_values rows table (levels_of rows table) table 0) m
    ∙ ap (with_values (values_below rows table)) (sym now_is)

-- the values of one table more, where the loop goes down
pub values_below-down : (rows : Rows) (table levels oid found : ℕ) (m now : Database) → 1 ≤ table → map_of_rows rows ≡ with_values (values_below rows table) m → found ≡ table - 1 → oid ≡ found → levels ≡ levels_of rows oid
    → now ≡ with_values (tree_values rows found levels oid 0) m → map_of_rows rows ≡ with_values (values_below rows (table - 1)) now
values_below-down rows table levels oid found m now low before found_is oid_is levels_are now_is =
    values_below-table rows (table - 1) m now
    (before ∙ ap (λ (n : ℕ). with_values (values_below rows n) m) (let e : table ≡ table - 1 + 1 = omega arith in e))
    (now_is ∙ ap (λ (n : ℕ). with_values (tree_values rows found n oid 0) m) levels_are
    ∙ ap (λ (o : ℕ). with_values (tree_values rows found (levels_of rows o) o 0) m) oid_is
    ∙ ap (λ (f : ℕ). with_values (tree_values rows f (levels_of rows f) f 0) m) found_is)
