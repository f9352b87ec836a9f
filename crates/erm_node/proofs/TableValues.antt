-- What the map of sound rows has at a key: the keys of a tree ascend, so each key has one entry.
use Rattle.std.proofs.Common.{◌≡◌, ℕ, zero, suc, ◌<◌, ◌≤◌, ◌^◌, ◌==◌, List, [], ◌∷◌, ◌++◌, Bool, true, false, ◌&&◌, cond, Option, Some, None, refl, sym, ap, ◌∙◌, inl, inr, arith}
use Rattle.std.specs.Prelude.{nat_eq, filter_map, flat_map, option_map, option_and_then}
use Rattle.std.specs.List.{cons_option}
use Rattle.std.specs.Map.{lookup}
use Rattle.std.specs.BTreeMap.{is_at}
use Rattle.std.specs.FinMap.{from_entries}
use Rattle.std.proofs.lemmas.Bool.Decides.{nat_tests, eqb_tells}
use Rattle.erm_model.specs.declared.key.Key.{Key}
use Rattle.erm_model.specs.Database.{Database, at, key_cmp, value_at}
use Rattle.erm_model.proofs.Keys.{get_key, tied_keys}
use Rattle.erm_model.specs.Rows.{Rows}
use Rattle.erm_record.specs.Record.{record_value}
use Rattle.erm_node.specs.Node.{pairs_of}
use Rattle.erm_node.specs.Tree.{AscendWithin, Fan, Starts, IsTree, entries, first_key}
use Rattle.erm_node.specs.Sound.{IsSound, levels_of}
use Rattle.erm_node.specs.TreeMap.{entry_value, map_of_rows, table_entries, tree_values, value_in, values_below}
use Rattle.erm_node.proofs.Values.{map_of_rows-is, with_values-empty}

-- from a lower bound on too
AscendWithin-lower : (lo mid : ℕ) (es : List (ℕ × ℕ)) (hi : ℕ) → lo ≤ mid → AscendWithin mid es hi → AscendWithin lo es hi
AscendWithin-lower lo mid [] hi lower es = tt
AscendWithin-lower lo mid (e ∷ es) hi lower (from, to, rest) = (omega (arith, lower, from), to, rest)

-- one range after another
AscendWithin-append : (lo : ℕ) (es fs : List (ℕ × ℕ)) (mid hi : ℕ) → lo ≤ mid → mid ≤ hi → AscendWithin lo es mid → AscendWithin mid fs hi → AscendWithin lo (es ++ fs) hi
AscendWithin-append lo [] fs mid hi low high first second = AscendWithin-lower lo mid fs hi low second
AscendWithin-append lo (e ∷ es) fs mid hi low high (from, to, rest) second =
    (from, omega (arith, to, high), AscendWithin-append (suc e.0) es fs mid hi (omega (arith, to)) high rest second)

-- the first key of a fan is at most its end
Fan-first : (P : ℕ → ℕ → ℕ → Type 0) (pairs : List (ℕ × ℕ)) (hi : ℕ) → Fan P pairs hi → first_key pairs hi ≤ hi
Fan-first P [] hi fan = omega arith
Fan-first P (pair ∷ pairs) hi (part, less, rest) = omega (arith, less, Fan-first P pairs hi rest)

first_key-itself : (pairs : List (ℕ × ℕ)) (hi : ℕ) → first_key pairs hi ≤ first_key pairs (first_key pairs hi)
first_key-itself [] hi = omega arith
first_key-itself (pair ∷ pairs) hi = omega arith

-- the keys of a fan ascend where those of its parts do
Fan-ascends : (P : ℕ → ℕ → ℕ → Type 0) (f : ℕ → ℕ → List (ℕ × ℕ)) → ((oid lo hi : ℕ) → P oid lo hi → lo < hi → AscendWithin lo (f oid lo) hi)
    → (pairs : List (ℕ × ℕ)) (lo hi : ℕ) → lo ≤ first_key pairs lo → Fan P pairs hi → AscendWithin lo (flat_map (λ pair. f pair.1 pair.0) pairs) hi
Fan-ascends P f part [] lo hi low fan = tt
Fan-ascends P f part (pair ∷ pairs) lo hi low (first, less, rest) =
    AscendWithin-lower lo pair.0 (f pair.1 pair.0 ++ flat_map (λ (p : ℕ × ℕ). f p.1 p.0) pairs) hi low
    (AscendWithin-append pair.0 (f pair.1 pair.0) (flat_map (λ (p : ℕ × ℕ). f p.1 p.0) pairs) (first_key pairs hi) hi (omega (arith, less)) (Fan-first P pairs hi rest)
    (part pair.1 pair.0 (first_key pairs hi) first less)
    (Fan-ascends P f part pairs (first_key pairs hi) hi (first_key-itself pairs hi) rest))

Starts-low : (leaf : Bool) (lo key : ℕ) → Starts leaf lo key → lo ≤ key
Starts-low true lo key starts = starts
Starts-low false lo key starts = omega (arith, starts)

-- the keys of a tree ascend within its bounds
pub IsTree-ascends : (rows : Rows) (levels least oid lo hi : ℕ) → IsTree rows levels least oid lo hi → lo < hi → AscendWithin lo (entries rows levels oid lo) hi
IsTree-ascends rows zero least oid lo hi tree less = (omega arith, less, tt)
IsTree-ascends rows (suc levels) least oid lo hi tree less =
    Fan-ascends (λ child from to. IsTree rows levels 4 child from to) (entries rows levels) (λ child from to part below. IsTree-ascends rows levels 4 child from to part below)
    (pairs_of (rows oid)) lo hi (Starts-low (levels == 0) lo (first_key (pairs_of (rows oid)) lo) tree.starts) tree.fan

-- a key below all isn't there
lookup-above : (k lo : ℕ) (es : List (ℕ × ℕ)) (hi : ℕ) → k < lo → AscendWithin lo es hi → lookup (nat_eq k) es ≡ None
lookup-above k lo [] hi low ascend = refl
lookup-above k lo (e ∷ es) hi low (from, to, rest) =
    let other : nat_eq k e.0 ≡ false = grind (arith, nat_tests) in
    ap (λ (b : Bool). cond b (Some e.1) (lookup (nat_eq k) es)) other ∙ lookup-above k (suc e.0) es hi (omega (arith, low, from)) rest

-- where the first part has nothing, the second one decides, and the other way
lookup-append_right : {K X : Type 0} (test : K → Bool) (es fs : List (K × X)) → lookup test es ≡ None → lookup test (es ++ fs) ≡ lookup test fs
lookup-append_right test [] fs none = refl
lookup-append_right test (e ∷ es) fs none =
    elim (test e.0) as (λ (b : Bool). cond b (Some e.1) (lookup test es) ≡ None → cond b (Some e.1) (lookup test (es ++ fs)) ≡ lookup test fs) [
      | true ↦ λ some. absurd (cc)
      | false ↦ λ left. lookup-append_right test es fs left
    ] none

lookup-append_left : {K X : Type 0} (test : K → Bool) (es fs : List (K × X)) → lookup test fs ≡ None → lookup test (es ++ fs) ≡ lookup test es
lookup-append_left test [] fs none = none
lookup-append_left test (e ∷ es) fs none = ap (cond (test e.0) (Some e.1)) (lookup-append_left test es fs none)

module _ (rows : Rows) (table : ℕ) where
  -- another table's keys aren't there
  other_table : (t k : ℕ) (es : List (ℕ × ℕ)) → (t == table) ≡ false → lookup (is_at (key_cmp (at t k))) (filter_map (λ entry. entry_value rows table entry) es) ≡ None
  other_table t k [] other = refl
  other_table t k (e ∷ es) other =
      elim (record_value (rows e.1)) as (λ (o : Option (List ℕ)). lookup (is_at (key_cmp (at t k))) (cons_option (option_map {T = List ℕ} {U = Key × List ℕ} (λ value. (at table e.0, value)) o) (filter_map (λ entry. entry_value rows table entry) es)) ≡ None) [
        | None ↦ other_table t k es other
        | Some value ↦
            ap (λ (b : Bool). cond b (Some value) (lookup (is_at (key_cmp (at t k))) (filter_map (λ entry. entry_value rows table entry) es))) (tied_keys t k table e.0 ∙ ap (λ (b : Bool). b && (k == e.0)) other)
            ∙ other_table t k es other
      ]

  -- what a table's values have at a key
  same_table : (k lo : ℕ) (es : List (ℕ × ℕ)) (hi : ℕ) → AscendWithin lo es hi
      → lookup (is_at (key_cmp (at table k))) (filter_map (λ entry. entry_value rows table entry) es) ≡ option_and_then (λ oid. record_value (rows oid)) (lookup (nat_eq k) es)
  same_table k lo [] hi ascend = refl
  same_table k lo (e ∷ es) hi (from, to, rest) =
      let values = filter_map (λ (entry : ℕ × ℕ). entry_value rows table entry) es in
      let at_key = is_at (key_cmp (at table k)) in
      let others = same_table k (suc e.0) es hi rest in
      let tied : at_key (at table e.0) ≡ (k == e.0) = tied_keys table k table e.0 ∙ ap (λ (b : Bool). b && (k == e.0)) (let same : (table == table) ≡ true = grind (arith, nat_tests) in same) in
      elim (eqb_tells k e.0) as (λ _. lookup at_key (cons_option (entry_value rows table e) values) ≡ option_and_then (λ oid. record_value (rows oid)) (cond (k == e.0) (Some e.1) (lookup (nat_eq k) es))) [
        | inl same ↦
            let none : lookup at_key values ≡ None = others ∙ ap (option_and_then (λ oid. record_value (rows oid))) (lookup-above k (suc e.0) es hi (omega (arith, same.1)) rest) in
            elim (record_value (rows e.1)) as (λ (o : Option (List ℕ)). lookup at_key (cons_option (option_map {T = List ℕ} {U = Key × List ℕ} (λ value. (at table e.0, value)) o) values) ≡ o) [
              | None ↦ none
              | Some value ↦ ap (λ (b : Bool). cond b (Some value) (lookup at_key values)) (tied ∙ same.0)
            ]
            ∙ sym (ap (λ (b : Bool). option_and_then (λ oid. record_value (rows oid)) (cond b (Some e.1) (lookup (nat_eq k) es))) same.0)
        | inr other ↦
            elim (record_value (rows e.1)) as (λ (o : Option (List ℕ)). lookup at_key (cons_option (option_map {T = List ℕ} {U = Key × List ℕ} (λ value. (at table e.0, value)) o) values) ≡ lookup at_key values) [
              | None ↦ refl
              | Some value ↦ ap (λ (b : Bool). cond b (Some value) (lookup at_key values)) (tied ∙ other.0)
            ]
            ∙ others
            ∙ sym (ap (λ (b : Bool). option_and_then (λ oid. record_value (rows oid)) (cond b (Some e.1) (lookup (nat_eq k) es))) other.0)
      ]

-- the tables below a number have nothing at a key of a later one
later_table : (rows : Rows) (n t k : ℕ) → n ≤ t → lookup (is_at (key_cmp (at t k))) (values_below rows n) ≡ None
later_table rows zero t k above = refl
later_table rows (suc n) t k above =
    lookup-append_left (is_at (key_cmp (at t k))) (values_below rows n) (tree_values rows n (levels_of rows n) n 0) (other_table rows n t k (table_entries rows n) (grind (arith, nat_tests)))
    ∙ later_table rows n t k (omega (arith, above))

-- and at a key of an earlier one the value of its record
earlier_table : (rows : Rows) (n t k : ℕ) → ((table : ℕ) → table < n → IsTree rows (levels_of rows table) 0 table 0 (2 ^ 64)) → t < n
    → lookup (is_at (key_cmp (at t k))) (values_below rows n) ≡ value_in rows t k
earlier_table rows zero t k trees below = absurd (omega (arith, below))
earlier_table rows (suc n) t k trees below =
    let values = tree_values rows n (levels_of rows n) n 0 in
    elim (eqb_tells t n) as (λ _. lookup (is_at (key_cmp (at t k))) (values_below rows n ++ values) ≡ value_in rows t k) [
      | inl same ↦
          lookup-append_right (is_at (key_cmp (at t k))) (values_below rows n) values (later_table rows n t k (omega (arith, same.1)))
          ∙ ap (λ (x : ℕ). lookup (is_at (key_cmp (at x k))) values) same.1
          ∙ same_table rows n k 0 (table_entries rows n) (2 ^ 64) (IsTree-ascends rows (levels_of rows n) 0 n 0 (2 ^ 64) (trees n (omega arith)) (omega arith))
          ∙ ap (λ (x : ℕ). value_in rows x k) (sym same.1)
      | inr other ↦
          lookup-append_left (is_at (key_cmp (at t k))) (values_below rows n) values (other_table rows n t k (table_entries rows n) other.0)
          ∙ earlier_table rows n t k (λ table less. trees table (omega (arith, less))) (omega (arith, below, other.1))
    ]

map_is : (rows : Rows) → map_of_rows rows ≡ from_entries (values_below rows 16)
map_is rows = map_of_rows-is rows ∙ with_values-empty (values_below rows 16)

-- the map of sound rows has for each key of each table the value of its record
pub value_at-map_of_rows : (rows : Rows) (table key : ℕ) → IsSound rows → table < 16 → value_at (map_of_rows rows) table key ≡ value_in rows table key
value_at-map_of_rows rows table key sound below =
    ap (λ (m : Database). value_at m table key) (map_is rows) ∙ get_key (values_below rows 16) (at table key) ∙ earlier_table rows 16 table key sound.trees below

-- and nothing else
pub value_at-map_of_rows_none : (rows : Rows) (table key : ℕ) → IsSound rows → 16 ≤ table → value_at (map_of_rows rows) table key ≡ None
value_at-map_of_rows_none rows table key sound above =
    ap (λ (m : Database). value_at m table key) (map_is rows) ∙ get_key (values_below rows 16) (at table key) ∙ later_table rows 16 table key above
