-- A key's record is set: each other key keeps its value, and the map is the one with this key set.
use Rattle.std.proofs.Common.{◌≡◌, ◌≢◌, ℕ, zero, suc, ◌+◌, ◌<◌, ◌≤◌, List, Bool, true, false, ◌&&◌, cond, Option, Some, None, refl, sym, ap, ◌∙◌, inl, inr, arith}
use Rattle.std.specs.Prelude.{◌==◌, option_and_then}
use Rattle.std.specs.FinMap.{insert, remove}
use Rattle.std.proofs.lemmas.Bool.{cases_lt}
use Rattle.std.proofs.lemmas.Bool.Decides.{nat_tests}
use Rattle.erm_model.specs.Database.{at, value_at}
use Rattle.erm_model.specs.Rows.{Rows, set_row}
use Rattle.erm_model.proofs.Keys.{same_database, value_at-insert, value_at-remove}
use Rattle.erm_record.specs.Record.{IsRecord, record_value}
use Rattle.erm_node.specs.Node.{node_of}
use Rattle.erm_node.specs.Sound.{IsSound, levels_of, reached, reached_below}
use Rattle.erm_node.specs.Tree.{times}
use Rattle.erm_node.specs.TreeMap.{map_of_rows, table_entries, record_in, value_in}
use Rattle.erm_tree.proofs.Records.{DifferAtRecords, record_in-same, occurs-entries, occurs-found, occurs-twice}
use Rattle.erm_tree.proofs.Standing.{reached-table}

reached_below-one : (rows : Rows) (n table x : ℕ) → table < n → times rows (levels_of rows table) table x ≤ reached_below rows n x
reached_below-one rows zero table x below = absurd (omega arith)
reached_below-one rows (suc n) table x below =
    elim (cases_lt table n) as (λ _. times rows (levels_of rows table) table x ≤ reached_below rows (suc n) x) [
      | inl less ↦ omega (arith, reached_below-one rows n table x less)
      | inr last ↦ let same : table ≡ n = omega arith in omega (arith, ap (λ (t : ℕ). times rows (levels_of rows t) t x) same)
    ]

-- two tables reach what each of them reaches
reached_below-two : (rows : Rows) (n table other x : ℕ) → table < other → other < n → times rows (levels_of rows table) table x + times rows (levels_of rows other) other x ≤ reached_below rows n x
reached_below-two rows zero table other x apart below = absurd (omega arith)
reached_below-two rows (suc n) table other x apart below =
    elim (cases_lt other n) as (λ _. times rows (levels_of rows table) table x + times rows (levels_of rows other) other x ≤ reached_below rows (suc n) x) [
      | inl less ↦ omega (arith, reached_below-two rows n table other x apart less)
      | inr last ↦
          let same : other ≡ n = omega arith in
          omega (arith, reached_below-one rows n table x (omega arith), ap (λ (t : ℕ). times rows (levels_of rows t) t x) same)
    ]

pub reached-two : (rows : Rows) (table other x : ℕ) → table < other → other < 16 → times rows (levels_of rows table) table x + times rows (levels_of rows other) other x ≤ reached rows x
unfolding reached
reached-two rows table other x apart below = reached_below-two rows 16 table other x apart below

module _ (rows : Rows) (sound : IsSound rows) where
  reached_by : (table key oid : ℕ) → record_in rows table key ≡ Some oid → 1 ≤ times rows (levels_of rows table) table oid
  reached_by table key oid is = omega (arith, occurs-entries rows (levels_of rows table) table 0 oid, occurs-found (table_entries rows table) key oid is)

  -- no object is the record of two keys
  pub one_key : (table key t k oid : ℕ) → table < 16 → t < 16 → record_in rows table key ≡ Some oid → record_in rows t k ≡ Some oid → (t ≡ table) × (k ≡ key)
  one_key table key t k oid below t_below is other_is =
      elim (cases_lt table t) as (λ _. (t ≡ table) × (k ≡ key)) [
        | inl before ↦ absurd (omega (arith, reached-two rows table t oid before t_below, reached_by table key oid is, reached_by t k oid other_is, sound.once oid))
        | inr not_before ↦ elim (cases_lt t table) as (λ _. (t ≡ table) × (k ≡ key)) [
          | inl after ↦ absurd (omega (arith, reached-two rows t table oid after below, reached_by table key oid is, reached_by t k oid other_is, sound.once oid))
          | inr same ↦
              let same_table : t ≡ table = omega arith in
              let here : record_in rows table k ≡ Some oid = ap (λ (n : ℕ). record_in rows n k) (sym same_table) ∙ other_is in
              let twice : key ≢ k → ⊥ = λ (apart : key ≢ k). let two = occurs-twice (table_entries rows table) key k oid apart is here in omega (arith, two, occurs-entries rows (levels_of rows table) table 0 oid, reached-table rows table oid below, sound.once oid) in (
                same_table,
                elim (cases_lt k key) as (λ _. k ≡ key) [
                  | inl less ↦ absurd (twice (λ e. omega arith))
                  | inr not_less ↦ elim (cases_lt key k) as (λ _. k ≡ key) [ inl more ↦ absurd (twice (λ e. omega arith)) | inr equal ↦ omega arith ]
                ],
              )
        ]
      ]

-- a key of a table has this value now, or none, and each other key of each table what it had
abbrev pub IsSetAt : Rows → Rows → ℕ → ℕ → Option (List ℕ) → Type 0
IsSetAt rows new table key value = (t k : ℕ) → t < 16 → value_in new t k ≡ cond ((t == table) && (k == key)) value (value_in rows t k)

both_true : (a b : Bool) → (a && b) ≡ true → (a ≡ true) × (b ≡ true)
both_true true b e = (refl, e)
both_true false b e = absurd (cc)

same_test : (a b : ℕ) → (a == b) ≡ true → a ≡ b
same_test a b e = grind (arith, nat_tests)

other_test : (a b : ℕ) → a ≢ b → (a == b) ≡ false
other_test a b apart = grind (arith, nat_tests)

module _ (rows : Rows) (sound : IsSound rows) (no_node : (row : List ℕ) → IsRecord row → node_of row ≡ None) (table key oid : ℕ) (below : table < 16) (is : record_in rows table key ≡ Some oid) (was : IsRecord (rows oid)) (row : List ℕ) (record_row : IsRecord row) where
  new : Rows
  new = set_row rows oid row

  -- only a record differs
  pub DifferAtRecords-set_row : DifferAtRecords rows (set_row rows oid row)
  DifferAtRecords-set_row = record {
    nodes = λ x. elim (x == oid) as (λ b. (x == oid) ≡ b → node_of (cond b row (rows x)) ≡ node_of (rows x)) [
      | true ↦ λ e. no_node row record_row ∙ sym (ap (λ (y : ℕ). node_of (rows y)) (same_test x oid e) ∙ no_node (rows oid) was)
      | false ↦ λ e. refl
    ] refl;
    records = λ x is_record. elim (x == oid) as (λ b. IsRecord (cond b row (rows x))) [ true ↦ record_row | false ↦ is_record ];
  }

  kept : (t k : ℕ) → t < 16 → (found : Option ℕ) → record_in rows t k ≡ found → ((t == table) && (k == key)) ≡ false
      → option_and_then (λ o. record_value (set_row rows oid row o)) found ≡ option_and_then (λ o. record_value (rows o)) found
  kept t k t_below None found apart = refl
  kept t k t_below (Some o) found apart =
      let other : o ≢ oid = λ same.
      let one = one_key rows sound table key t k oid below t_below is (found ∙ ap Some same) in
      let yes : (t == table) ≡ true = (let e = one.0 in grind (arith, nat_tests)) in
      let yes_too : (k == key) ≡ true = (let e = one.1 in grind (arith, nat_tests)) in
      absurd (clash (t == table) (k == key) yes yes_too apart) in
      ap (λ (b : Bool). record_value (cond b row (rows o))) (other_test o oid other)
    where
      clash : (a b : Bool) → a ≡ true → b ≡ true → (a && b) ≡ false → ⊥
      clash true true p q e = absurd (cc)
      clash true false p q e = absurd (cc)
      clash false b p q e = absurd (cc)

  -- the key has the value of the row
  pub IsSetAt-set_row : IsSetAt rows (set_row rows oid row) table key (record_value row)
  IsSetAt-set_row t k t_below =
      let differ = DifferAtRecords-set_row in
      let moved : value_in (set_row rows oid row) t k ≡ option_and_then (λ o. record_value (set_row rows oid row o)) (record_in rows t k) =
      ap (option_and_then (λ o. record_value (set_row rows oid row o))) (record_in-same rows (set_row rows oid row) differ t k) in
      moved ∙ elim ((t == table) && (k == key)) as (λ b. ((t == table) && (k == key)) ≡ b → option_and_then (λ o. record_value (set_row rows oid row o)) (record_in rows t k) ≡ cond b (record_value row) (value_in rows t k)) [
        | true ↦ λ e.
            let both = both_true (t == table) (k == key) e in
            let here : record_in rows t k ≡ Some oid = ap (λ (n : ℕ). record_in rows n k) (same_test t table both.0) ∙ ap (record_in rows table) (same_test k key both.1) ∙ is in
            let itself : (oid == oid) ≡ true = grind (arith, nat_tests) in
            ap (option_and_then (λ o. record_value (set_row rows oid row o))) here ∙ ap (λ (b : Bool). record_value (cond b row (rows oid))) itself
        | false ↦ λ e. kept t k t_below (record_in rows t k) refl e
      ] refl

module _ (values : (rows : Rows) (t k : ℕ) → IsSound rows → t < 16 → value_at (map_of_rows rows) t k ≡ value_in rows t k) (none : (rows : Rows) (t k : ℕ) → IsSound rows → 16 ≤ t → value_at (map_of_rows rows) t k ≡ None)
    (rows new : Rows) (sound : IsSound rows) (new_sound : IsSound new) (table key : ℕ) (below : table < 16) where
  at_each : (value : Option (List ℕ)) → IsSetAt rows new table key value → (t k : ℕ) → value_at (map_of_rows new) t k ≡ cond ((t == table) && (k == key)) value (value_at (map_of_rows rows) t k)
  at_each value set t k = elim (cases_lt t 16) as (λ _. value_at (map_of_rows new) t k ≡ cond ((t == table) && (k == key)) value (value_at (map_of_rows rows) t k)) [
    | inl few ↦ values new t k new_sound few ∙ set t k few ∙ ap (cond ((t == table) && (k == key)) value) (sym (values rows t k sound few))
    | inr many ↦
        let other : (t == table) ≡ false = other_test t table (λ e. omega arith) in
        none new t k new_sound many ∙ sym (ap (λ (b : Bool). cond (b && (k == key)) value (value_at (map_of_rows rows) t k)) other ∙ none rows t k sound many)
  ]

  -- the map has the key set
  pub map_of_rows-insert : (value : List ℕ) → IsSetAt rows new table key (Some value) → map_of_rows new ≡ insert (map_of_rows rows) (at table key) value
  map_of_rows-insert value set = same_database (map_of_rows new) (insert (map_of_rows rows) (at table key) value)
      (λ t k. at_each (Some value) set t k ∙ sym (value_at-insert (map_of_rows rows) table key value t k))

  -- the map has the key taken away
  pub map_of_rows-remove : IsSetAt rows new table key None → map_of_rows new ≡ remove (map_of_rows rows) (at table key)
  map_of_rows-remove set = same_database (map_of_rows new) (remove (map_of_rows rows) (at table key))
      (λ t k. at_each None set t k ∙ sym (value_at-remove (map_of_rows rows) table key t k))

-- a key without a value loses nothing
pub IsSetAt-nothing : (rows : Rows) (table key : ℕ) → value_in rows table key ≡ None → IsSetAt rows rows table key None
IsSetAt-nothing rows table key nothing t k below =
    elim ((t == table) && (k == key)) as (λ b. ((t == table) && (k == key)) ≡ b → value_in rows t k ≡ cond b None (value_in rows t k)) [
      | true ↦ λ e.
          let both = both_true (t == table) (k == key) e in
          ap (λ (n : ℕ). value_in rows n k) (same_test t table both.0) ∙ ap (value_in rows table) (same_test k key both.1) ∙ nothing
      | false ↦ λ e. refl
    ] refl
