-- Where only objects that one table's tree reaches, and none that another's does, have other rows now, the others' trees stay.
use Rattle.std.proofs.Common.{◌≡◌, ◌≢◌, ℕ, zero, suc, ◌+◌, ◌^◌, ◌<◌, ◌≤◌, List, true, Option, Some, None, refl, sym, ap, ◌∙◌, subst, inl, inr, arith}
use Rattle.std.specs.Prelude.{nat_eq, option_and_then}
use Rattle.std.specs.Map.{lookup}
use Rattle.std.proofs.lemmas.Bool.{cases_lt}
use Rattle.erm_model.specs.Rows.{Rows}
use Rattle.erm_record.specs.Record.{record_value}
use Rattle.erm_node.specs.Node.{Shape, node_of, node_row, is_node}
use Rattle.erm_node.specs.Sound.{IsSound, levels_of, reached, reached_below}
use Rattle.erm_node.specs.Tree.{IsTree, entries, times}
use Rattle.erm_node.specs.TreeMap.{table_entries, record_in, value_in}
use Rattle.erm_tree.proofs.Depths.{levels_of-tree}
use Rattle.erm_node.proofs.Frames.{IsKept, IsKept-frame}
use Rattle.erm_tree.proofs.Records.{occurs-entries, occurs-found}
use Rattle.erm_tree.proofs.Settings.{reached-two}
use Rattle.erm_tree.proofs.Standing.{reached-table, levels_of-bounds}

-- two tables reach nothing in common
pub two_tables : (rows : Rows) (table t x : ℕ) → IsSound rows → table < 16 → t < 16 → t ≢ table → times rows (levels_of rows t) t x + times rows (levels_of rows table) table x ≤ 1
two_tables rows table t x sound below t_below other =
    elim (cases_lt t table) as (λ _. times rows (levels_of rows t) t x + times rows (levels_of rows table) table x ≤ 1) [
      | inl less ↦ omega (arith, reached-two rows t table x less below, sound.once x)
      | inr not_less ↦ elim (cases_lt table t) as (λ _. times rows (levels_of rows t) t x + times rows (levels_of rows table) table x ≤ 1) [
        | inl more ↦ omega (arith, reached-two rows table t x more t_below, sound.once x)
        | inr same ↦ absurd (other (omega arith))
      ]
    ]

module _ (found : (row : List ℕ) (shape : Shape) → node_of row ≡ Some shape → (is_node shape ≡ true) × (row ≡ node_row shape)) (rows new : Rows) (table : ℕ) (sound : IsSound rows) (below : table < 16)
    (same : (x : ℕ) → 0 < reached rows x → times rows (levels_of rows table) table x ≡ 0 → new x ≡ rows x) where
  -- what another table's tree reaches keeps its row
  pub row_kept : (t x : ℕ) → t < 16 → t ≢ table → 0 < times rows (levels_of rows t) t x → new x ≡ rows x
  row_kept t x t_below other some = same x (omega (arith, reached-table rows t x t_below)) (omega (arith, two_tables rows table t x sound below t_below other))

  -- each other table's tree stays
  pub kept : (t : ℕ) → t < 16 → t ≢ table → IsKept rows new (levels_of rows t) 0 t 0 (2 ^ 64)
  kept t t_below other = IsKept-frame rows new (levels_of rows t) 0 t 0 (2 ^ 64) (sound.trees t t_below) (λ x some. row_kept t x t_below other some)

  pub kept_depth : (t : ℕ) → t < 16 → t ≢ table → levels_of new t ≡ levels_of rows t
  kept_depth t t_below other =
      let (n, many, at_most) = levels_of-bounds rows t in
      let tree : IsTree new (suc n) 0 t 0 (2 ^ 64) = subst (λ (m : ℕ). IsTree new m 0 t 0 (2 ^ 64)) many (kept t t_below other).tree in
      levels_of-tree found new n 0 t 0 (2 ^ 64) tree at_most ∙ sym many

  pub times_kept : (t x : ℕ) → t < 16 → t ≢ table → times new (levels_of new t) t x ≡ times rows (levels_of rows t) t x
  times_kept t x t_below other = ap (λ (m : ℕ). times new m t x) (kept_depth t t_below other) ∙ (kept t t_below other).times x

  -- each key of another table has the record that it had
  pub record_other_table : (t k : ℕ) → t < 16 → t ≢ table → record_in new t k ≡ record_in rows t k
  record_other_table t k t_below other = ap (λ (m : ℕ). lookup (nat_eq k) (entries new m t 0)) (kept_depth t t_below other) ∙ ap (lookup (nat_eq k)) (kept t t_below other).entries

  value_kept : (t k : ℕ) → t < 16 → t ≢ table → (r : Option ℕ) → record_in rows t k ≡ r → option_and_then (λ o. record_value (new o)) r ≡ option_and_then (λ o. record_value (rows o)) r
  value_kept t k t_below other None is = refl
  value_kept t k t_below other (Some oid) is =
      ap record_value (row_kept t oid t_below other (omega (arith, occurs-found (table_entries rows t) k oid is, occurs-entries rows (levels_of rows t) t 0 oid)))

  -- and the value
  pub value_other_table : (t k : ℕ) → t < 16 → t ≢ table → value_in new t k ≡ value_in rows t k
  value_other_table t k t_below other = ap (option_and_then (λ o. record_value (new o))) (record_other_table t k t_below other) ∙ value_kept t k t_below other (record_in rows t k) refl

  -- all tables reach more just where this one does
  reached_up_to : (n x : ℕ) → n ≤ table → reached_below new n x ≡ reached_below rows n x
  reached_up_to zero x under = refl
  reached_up_to (suc n) x under = omega (arith, reached_up_to n x (omega arith), times_kept n x (omega arith) (λ e. omega arith))

  reached_past : (n x : ℕ) → table < n → n ≤ 16 → reached_below new n x + times rows (levels_of rows table) table x ≡ reached_below rows n x + times new (levels_of new table) table x
  reached_past zero x over at_most = absurd (omega arith)
  reached_past (suc n) x over at_most =
      elim (cases_lt table n) as (λ _. reached_below new (suc n) x + times rows (levels_of rows table) table x ≡ reached_below rows (suc n) x + times new (levels_of new table) table x) [
        | inl less ↦ omega (arith, reached_past n x less (omega arith), times_kept n x (omega arith) (λ e. omega arith))
        | inr here ↦
            let is : n ≡ table = omega arith in
            omega (arith, reached_up_to n x (omega arith), ap (λ (t : ℕ). times new (levels_of new t) t x) is, ap (λ (t : ℕ). times rows (levels_of rows t) t x) is)
      ]

  pub reached-one : (x : ℕ) → reached new x + times rows (levels_of rows table) table x ≡ reached rows x + times new (levels_of new table) table x
  unfolding reached
  reached-one x = reached_past 16 x below (omega arith)
