-- Rows of zeros: their map is empty, and none of them counts.
use Rattle.std.proofs.Common.{◌≡◌, ℕ, zero, suc, ◌+◌, ◌-◌, ◌<◌, ◌≤◌, ◌⊎◌, true, false, List, [], ◌++◌, length, replicate, get_or, refl, ap, ◌∙◌, inl, inr, arith}
use Rattle.std.specs.Prelude.{not, filter_map, flat_map}
use Rattle.std.specs.FinMap.{empty, from_entries}
use Rattle.std.specs.List.{filter, range_with_len}
use Rattle.std.proofs.lemmas.Bool.{cases_lt}
use Rattle.erm_model.specs.declared.limits.TheConstants.{OID_LIMIT, TABLES}
use Rattle.erm_model.specs.Rows.{Rows, rows_of}
use Rattle.erm_node.specs.Sound.{levels_of}
use Rattle.erm_node.specs.Tree.{entries}
use Rattle.erm_node.specs.TreeMap.{map_of_rows, entry_value, tree_values, values_below}
use Rattle.erm_node.proofs.ZeroRows.{no_pairs, one_level}
use Rattle.erm_node.proofs.Zeros.{zeros}
use Rattle.erm_lines.specs.Executions.{count_rows, is_zero}
use Rattle.erm_start.specs.Recovered.{IsFirstObject}

-- no table has a value
no_values : (rows : Rows) (table : ℕ) → rows table ≡ zeros → tree_values rows table (levels_of rows table) table 0 ≡ []
no_values rows table is =
    ap (λ levels. tree_values rows table levels table 0) (one_level rows table is)
    ∙ ap (λ pairs. filter_map (λ entry. entry_value rows table entry) (flat_map (λ pair. entries rows 0 pair.1 pair.0) pairs)) (no_pairs (rows table) is)

none_valued : (rows : Rows) (n : ℕ) → ((oid : ℕ) → oid < n → rows oid ≡ zeros) → values_below rows n ≡ []
none_valued rows zero zero_rows = refl
none_valued rows (suc n) zero_rows =
    ap (λ values. values ++ tree_values rows n (levels_of rows n) n 0) (none_valued rows n (λ oid below. zero_rows oid (omega (arith, below))))
    ∙ no_values rows n (zero_rows n (omega arith))

pub zeros-map : (rows : Rows) → ((oid : ℕ) → oid < 16 → rows oid ≡ zeros) → map_of_rows rows ≡ empty
unfolding map_of_rows
zeros-map rows zero_rows = ap from_entries (none_valued rows 16 zero_rows)

-- none of them counts
none_counted : (rows : Rows) (n from : ℕ) → ((oid : ℕ) → oid < from + n → rows oid ≡ zeros) → length (filter (λ oid. not (is_zero (rows oid))) (range_with_len from n)) ≡ 0
none_counted rows zero from zero_rows = refl
none_counted rows (suc n) from zero_rows =
    let here : not (is_zero (rows from)) ≡ false = ap (λ row. not (is_zero row)) (zero_rows from (omega arith)) in
    rw here (none_counted rows n (from + 1) (λ oid below. zero_rows oid (omega (arith, below))))

pub zeros-count : (rows : Rows) → ((oid : ℕ) → oid < OID_LIMIT → rows oid ≡ zeros) → count_rows rows ≡ 0
zeros-count rows zero_rows = none_counted rows OID_LIMIT 0 zero_rows

-- the rows of a list of zeros
get_or-zeros : (n t : ℕ) (row : List ℕ) → t < n → get_or (replicate n row) t [] ≡ row
get_or-zeros zero t row below = absurd (omega (arith, below))
get_or-zeros (suc n) zero row below = refl
get_or-zeros (suc n) (suc t) row below = get_or-zeros n t row (omega (arith, below))

pub zeros-listed : (n : ℕ) (rows : List (List ℕ)) → rows ≡ replicate n zeros → (oid : ℕ) → oid < n → rows_of rows oid ≡ zeros
zeros-listed n rows is oid below = ap (λ (list : List (List ℕ)). get_or list oid []) is ∙ get_or-zeros n oid zeros below

-- the first object that a world on rows of zeros makes is that behind the tables
pub zeros-first : (rows : Rows) (first : ℕ) → ((oid : ℕ) → oid < OID_LIMIT → rows oid ≡ zeros) → IsFirstObject rows first → first ≡ TABLES
zeros-first rows first none is = first_is (cases_lt TABLES first)
  where
    first_is : (TABLES < first) ⊎ (first ≤ TABLES) → first ≡ TABLES
    first_is (inl more) =
        let within = is.within in
        let of_zeros : is_zero (rows (first - 1)) ≡ true = ap is_zero (none (first - 1) (omega (arith, within, more))) in
        let other = is.used more in
        absurd (cc)
    first_is (inr least) = let tables = is.tables in omega (arith, least, tables)
