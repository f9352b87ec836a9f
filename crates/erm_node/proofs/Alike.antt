-- Sound rows, and their map, are told by the rows of the objects that there may be.
use Rattle.std.proofs.Common.{◌≡◌, ℕ, zero, suc, ◌+◌, ◌^◌, ◌<◌, ◌≤◌, List, [], ◌∷◌, ◌++◌, refl, sym, ap, ◌∙◌, subst, inl, inr, arith}
use Rattle.std.specs.Prelude.{filter_map, flat_map, option_map}
use Rattle.std.specs.FinMap.{from_entries}
use Rattle.std.specs.List.{cons_option}
use Rattle.std.proofs.lemmas.Bool.{cases_lt}
use Rattle.erm_model.specs.declared.key.Key.{Key}
use Rattle.erm_model.specs.Database.{at}
use Rattle.erm_model.specs.declared.limits.TheConstants.{OID_LIMIT}
use Rattle.erm_model.specs.Rows.{Rows}
use Rattle.erm_model.specs.RowTransaction.{SameRows, RespectsRows}
use Rattle.erm_record.specs.Record.{record_value}
use Rattle.erm_node.specs.Node.{pairs_of}
use Rattle.erm_node.specs.Tree.{IsTree, entries, same_oid, times, total}
use Rattle.erm_node.specs.Sound.{IsSound, inner_levels, levels_of, reached, reached_below, sound_law}
use Rattle.erm_node.specs.TreeMap.{entry_value, map_of_rows, tree_values, values_below}
use Rattle.erm_node.proofs.Depth.{levels_of-tree}
use Rattle.erm_node.proofs.Frames.{IsKept-frame}
use Rattle.erm_node.proofs.Levels.{inner_levels-limit, levels_of-root}
use Rattle.erm_node.proofs.Reached.{reached-is, reached-table}
use Rattle.erm_node.proofs.Walks.{same_oid-itself}

-- how often entries have an object for their record
abbrev records_at : List (ℕ × ℕ) → ℕ → ℕ
records_at es x = total (λ entry. same_oid entry.1 x) es

records_at-append : (es others : List (ℕ × ℕ)) (x : ℕ) → records_at (es ++ others) x ≡ records_at es x + records_at others x
records_at-append [] others x = omega arith
records_at-append (e ∷ es) others x = omega (arith, records_at-append es others x)

module _ (rows : Rows) (levels x : ℕ) (each : (oid lo : ℕ) → records_at (entries rows levels oid lo) x ≤ times rows levels oid x) where
  records_at-fan : (ps : List (ℕ × ℕ)) → records_at (flat_map (λ pair. entries rows levels pair.1 pair.0) ps) x ≤ total (λ pair. times rows levels pair.1 x) ps
  records_at-fan [] = omega arith
  records_at-fan (p ∷ ps) =
      omega (arith, records_at-append (entries rows levels p.1 p.0) (flat_map (λ pair. entries rows levels pair.1 pair.0) ps) x, each p.1 p.0, records_at-fan ps)

-- a tree reaches the records of its entries
records_at-tree : (rows : Rows) (levels x oid lo : ℕ) → records_at (entries rows levels oid lo) x ≤ times rows levels oid x
records_at-tree rows zero x oid lo = omega arith
records_at-tree rows (suc levels) x oid lo =
    omega (arith, records_at-fan rows levels x (λ child from. records_at-tree rows levels x child from) (pairs_of (rows oid)))

-- entries whose records have the same rows have the same values
same_values : (a b : Rows) (table : ℕ) (es : List (ℕ × ℕ)) → ((x : ℕ) → 0 < records_at es x → b x ≡ a x) → filter_map (λ entry. entry_value b table entry) es ≡ filter_map (λ entry. entry_value a table entry) es
same_values a b table [] same = refl
same_values a b table (e ∷ es) same =
    ap (λ o. cons_option o (filter_map (λ entry. entry_value b table entry) es))
    (ap (λ (row : List ℕ). option_map {T = List ℕ} {U = Key × List ℕ} (λ value. (at table e.0, value)) (record_value row)) (same e.1 (omega (arith, same_oid-itself e.1))))
    ∙ ap (λ values. cons_option (entry_value a table e) values) (same_values a b table es (λ x some. same x (omega arith)))

-- a table's tree is one in both
record IsAlike (a b : Rows) (table : ℕ) : Type 0 where
  tree : IsTree b (levels_of b table) 0 table 0 (2 ^ 64)
  entries : entries b (levels_of b table) table 0 ≡ entries a (levels_of a table) table 0
  times : (x : ℕ) → times b (levels_of b table) table x ≡ times a (levels_of a table) table x

module _ (a b : Rows) (same : SameRows a b) (sound : IsSound a) where
  same_reached : (table x : ℕ) → table < 16 → 0 < times a (levels_of a table) table x → b x ≡ a x
  same_reached table x below some = elim (cases_lt x OID_LIMIT) as (λ _. b x ≡ a x) [
    | inl few ↦ sym (same x few)
    | inr many ↦ absurd (omega (arith, reached-table a table x below, sound.bounded x many))
  ]

  alike : (table : ℕ) → table < 16 → IsAlike a b table
  alike table below =
      let n = inner_levels a 11 table in
      let many : levels_of a table ≡ suc n = omega (arith, levels_of-root a table) in
      let kept = IsKept-frame a b (levels_of a table) 0 table 0 (2 ^ 64) (sound.trees table below) (λ x some. same_reached table x below some) in
      let tree : IsTree b (suc n) 0 table 0 (2 ^ 64) = subst (λ (m : ℕ). IsTree b m 0 table 0 (2 ^ 64)) many kept.tree in
      let levels : levels_of b table ≡ levels_of a table = levels_of-tree b n 0 table 0 (2 ^ 64) tree (omega (arith, inner_levels-limit a 11 table)) ∙ sym many in
      record {
        tree = subst (λ (m : ℕ). IsTree b m 0 table 0 (2 ^ 64)) (sym levels) kept.tree;
        entries = ap (λ (m : ℕ). entries b m table 0) levels ∙ kept.entries;
        times = λ x. ap (λ (m : ℕ). times b m table x) levels ∙ kept.times x;
      }

  alike_below : (n x : ℕ) → n ≤ 16 → reached_below b n x ≡ reached_below a n x
  alike_below zero x few = refl
  alike_below (suc n) x few = omega (arith, alike_below n x (omega arith), (alike n (omega arith)).times x)

  -- the trees reach the same
  reached-alike : (x : ℕ) → reached b x ≡ reached a x
  reached-alike x = reached-is b x ∙ alike_below 16 x (omega arith) ∙ sym (reached-is a x)

  table_values : (table : ℕ) → table < 16 → tree_values b table (levels_of b table) table 0 ≡ tree_values a table (levels_of a table) table 0
  table_values table below =
      ap (λ es. filter_map (λ entry. entry_value b table entry) es) (alike table below).entries
      ∙ same_values a b table (entries a (levels_of a table) table 0) (λ x some. same_reached table x below (omega (arith, some, records_at-tree a (levels_of a table) x table 0)))

  values_alike : (n : ℕ) → n ≤ 16 → values_below b n ≡ values_below a n
  values_alike zero few = refl
  values_alike (suc n) few =
      ap (λ values. values ++ tree_values b n (levels_of b n) n 0) (values_alike n (omega arith))
      ∙ ap (λ values. values_below a n ++ values) (table_values n (omega arith))

  -- the map is the same
  pub map_of_rows-alike : map_of_rows a ≡ map_of_rows b
  unfolding map_of_rows
  map_of_rows-alike = ap from_entries (sym (values_alike 16 (omega arith)))

  IsSound-alike : IsSound b
  IsSound-alike = record {
    trees = λ table below. (alike table below).tree;
    once = λ x. omega (arith, reached-alike x, sound.once x);
    bounded = λ x above. omega (arith, reached-alike x, sound.bounded x above);
  }

-- the law of sound rows looks at these alone
pub sound_law-respects : RespectsRows sound_law
sound_law-respects = record {
  meets = λ a b same. (IsSound-alike a b same, IsSound-alike b a (λ oid few. sym (same oid few)));
  reach = λ a b x same sound. sym (reached-alike a b same sound x);
}
