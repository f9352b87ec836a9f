-- All rows after a new key was put into a table: they are sound, and each other key keeps its value.
use Rattle.std.proofs.Common.{◌≡◌, ◌≢◌, ℕ, zero, suc, ◌+◌, ◌^◌, ◌<◌, ◌≤◌, List, [], ◌∷◌, ◌++◌, length, Bool, true, false, ◌&&◌, cond, Option, Some, None, refl, sym, ap, ◌∙◌, subst, inl, inr, arith}
use Rattle.std.specs.Prelude.{◌⊎◌, ◌==◌, nat_eq, flat_map, slice_index, option_and_then}
use Rattle.std.specs.Map.{lookup}
use Rattle.std.proofs.lemmas.Bool.{cases_lt}
use Rattle.std.proofs.lemmas.Bool.Decides.{nat_tests}
use Rattle.erm_model.specs.declared.limits.TheConstants.{OID_LIMIT}
use Rattle.erm_model.specs.Rows.{Rows}
use Rattle.erm_record.specs.Record.{IsRecord, record_value}
use Rattle.erm_node.specs.Node.{Shape, node_of, node_row, pairs_of, is_node}
use Rattle.erm_node.specs.Sound.{IsSound, levels_of, reached}
use Rattle.erm_node.specs.Tree.{Fan, first_key, total, same_oid, IsTree, entries, times}
use Rattle.erm_node.specs.TreeMap.{table_entries, record_in, value_in}
use Rattle.erm_tree.specs.Insert.{child_for}
use Rattle.erm_tree.proofs.Fans.{total-append, flat_map-append, Fan-back}
use Rattle.erm_tree.proofs.Trees.{lookup-append_none}
use Rattle.erm_tree.proofs.Standing.{reached-table, levels_of-bounds}
use Rattle.erm_tree.proofs.Records.{occurs, occurs-entries, occurs-found, occurs-flat_map}
use Rattle.erm_tree.proofs.Settings.{IsSetAt}
use Rattle.erm_tree.proofs.Depths.{levels_of-tree}
use Rattle.erm_tree.proofs.Growth.{on_path, on_path-times, has_pair_for, hands, Before, AreWritten}
use Rattle.erm_tree.proofs.Apart.{two_tables, kept, kept_depth, value_other_table, reached-one}
use Rattle.erm_tree.proofs.Roots.{IsRootWritten, IsRootAfter, IsRootAfter-written}

other_test : (a b : ℕ) → a ≢ b → (a == b) ≡ false
other_test a b apart = grind (arith, nat_tests)

other_key : (a b : ℕ) → a ≢ b → nat_eq a b ≡ false
other_key a b apart = grind (arith, nat_tests)

same_key : (a : ℕ) → nat_eq a a ≡ true
same_key a = grind (arith, nat_tests)

same_test : (a b : ℕ) → (a == b) ≡ true → a ≡ b
same_test a b e = grind (arith, nat_tests)

-- an entry that was put between others is found, and the others are found as before
lookup-inserted_other : (es fs : List (ℕ × ℕ)) (k key oid : ℕ) → nat_eq k key ≡ false → lookup (nat_eq k) (es ++ (key, oid) ∷ fs) ≡ lookup (nat_eq k) (es ++ fs)
lookup-inserted_other [] fs k key oid other = ap (λ (b : Bool). cond b (Some oid) (lookup (nat_eq k) fs)) other
lookup-inserted_other (e ∷ es) fs k key oid other = ap (cond (nat_eq k e.0) (Some e.1)) (lookup-inserted_other es fs k key oid other)

none_in_front : (es fs : List (ℕ × ℕ)) (k : ℕ) → lookup (nat_eq k) (es ++ fs) ≡ None → lookup (nat_eq k) es ≡ None
none_in_front [] fs k none = refl
none_in_front (e ∷ es) fs k none =
    elim (nat_eq k e.0) as (λ b. cond b (Some e.1) (lookup (nat_eq k) (es ++ fs)) ≡ None → cond b (Some e.1) (lookup (nat_eq k) es) ≡ None) [
      | true ↦ λ h. absurd (cc)
      | false ↦ λ h. none_in_front es fs k h
    ] none

lookup-inserted : (es fs : List (ℕ × ℕ)) (key oid : ℕ) → lookup (nat_eq key) (es ++ fs) ≡ None → lookup (nat_eq key) (es ++ (key, oid) ∷ fs) ≡ Some oid
lookup-inserted es fs key oid none =
    lookup-append_none (nat_eq key) es ((key, oid) ∷ fs) (none_in_front es fs key none) ∙ ap (λ (b : Bool). cond b (Some oid) (lookup (nat_eq key) fs)) (same_key key)

module _ (found : (row : List ℕ) (shape : Shape) → node_of row ≡ Some shape → (is_node shape ≡ true) × (row ≡ node_row shape)) (rows : Rows) (key : ℕ) where
  -- the nodes on the way are none of the records
  pub on_path-occurs : (levels least oid lo hi : ℕ) → IsTree rows levels least oid lo hi → lo ≤ key → key < hi → (x : ℕ) → on_path rows key levels oid x + occurs (entries rows levels oid lo) x ≤ times rows levels oid x
  on_path-occurs zero least oid lo hi tree low high x = omega arith
  on_path-occurs (suc zero) least oid lo hi tree low high x =
      omega (arith, occurs-flat_map (λ p. entries rows 0 p.1 p.0) (λ p. times rows 0 p.1 x) (pairs_of (rows oid)) x (λ p. occurs-entries rows 0 p.1 p.0 x))
  on_path-occurs (suc (suc levels)) least oid lo hi tree low high x =
      let h = has_pair_for found rows key levels least oid lo hi tree low high in
      let is = h.is_for in
      let P : ℕ → ℕ → ℕ → Type 0 = λ c f t. IsTree rows (suc levels) 4 c f t in
      let E : ℕ × ℕ → List (ℕ × ℕ) = λ (p : ℕ × ℕ). entries rows (suc levels) p.1 p.0 in
      let f : ℕ × ℕ → ℕ = λ (p : ℕ × ℕ). times rows (suc levels) p.1 x in
      let fan : Fan P (is.before ++ h.pair ∷ is.rest) hi = subst (λ (ps : List (ℕ × ℕ)). Fan P ps hi) is.split tree.fan in
      let here = Fan-back P is.before (h.pair ∷ is.rest) hi fan in
      let below = on_path-occurs (suc levels) 4 h.pair.1 h.pair.0 (first_key is.rest hi) here.0 is.low (subst (λ (t : ℕ). key < t) is.end is.high) x in
      omega (
        arith,
        below,
        ap (λ (c : ℕ). on_path rows key (suc levels) c x) h.child,
        ap (λ (ps : List (ℕ × ℕ)). occurs (flat_map E ps) x) is.split,
        ap (λ (es : List (ℕ × ℕ)). occurs es x) (flat_map-append E is.before (h.pair ∷ is.rest)),
        total-append (λ (e : ℕ × ℕ). same_oid e.1 x) (flat_map E is.before) (E h.pair ++ flat_map E is.rest),
        total-append (λ (e : ℕ × ℕ). same_oid e.1 x) (E h.pair) (flat_map E is.rest),
        ap (total f) is.split,
        total-append f is.before (h.pair ∷ is.rest),
        occurs-flat_map E f is.before x (λ p. occurs-entries rows (suc levels) p.1 p.0 x),
        occurs-flat_map E f is.rest x (λ p. occurs-entries rows (suc levels) p.1 p.0 x),
      )

-- What calls did as they put a new key into a table: the objects made are new, the nodes on the way have the rows that they
-- should have, the record has its row, and every other row that is reached stays.
pub record IsPlanted (rows new : Rows) (made : List ℕ) (table key levels : ℕ) (row : List ℕ) : Type 0 where
  pub some : 0 < length made
  pub bounded : (i : ℕ) → i < length made → slice_index made i < OID_LIMIT
  pub apart : (x : ℕ) → total (λ o. same_oid o x) made ≤ 1
  pub fresh : (x : ℕ) → 0 < total (λ o. same_oid o x) made → reached rows x ≡ 0
  pub record_there : new (slice_index made 0) ≡ row
  pub written : AreWritten rows new made key levels (child_for key (pairs_of (rows table)))
  pub root_written : IsRootWritten rows new made levels table (hands rows made key levels (child_for key (pairs_of (rows table))))
  pub same : (x : ℕ) → 0 < reached rows x → on_path rows key (suc levels) table x ≡ 0 → new x ≡ rows x

made_above : (made : List ℕ) (limit x : ℕ) → ((i : ℕ) → i < length made → slice_index made i < limit) → limit ≤ x → total (λ o. same_oid o x) made ≡ 0
made_above [] limit x small above = refl
made_above (o ∷ os) limit x small above =
    let first : o < limit = small 0 (omega arith) in
    let none : same_oid o x ≡ 0 = grind (arith, nat_tests) in
    omega (arith, none, made_above os limit x (λ i inside. small (suc i) (omega arith)) above)

zero_or_more : (n : ℕ) → (n ≡ 0) ⊎ (0 < n)
zero_or_more zero = inl refl
zero_or_more (suc n) = inr (omega arith)

module _ (rows new : Rows) (made : List ℕ) (table key levels : ℕ) (row : List ℕ)
    (found : (row : List ℕ) (shape : Shape) → node_of row ≡ Some shape → (is_node shape ≡ true) × (row ≡ node_row shape)) (given : (shape : Shape) → is_node shape ≡ true → node_of (node_row shape) ≡ Some shape)
    (sound : IsSound rows) (below : table < 16) (fits : key < 2 ^ 64) (record_row : IsRecord row) (depth : levels_of rows table ≡ suc levels) (absent : record_in rows table key ≡ None) (planted : IsPlanted rows new made table key levels row) where
  root_tree : IsTree rows (suc levels) 0 table 0 (2 ^ 64)
  root_tree = subst (λ (m : ℕ). IsTree rows m 0 table 0 (2 ^ 64)) depth (sound.trees table below)

  root_reached : (x : ℕ) → times rows (suc levels) table x ≤ reached rows x
  root_reached x = omega (arith, reached-table rows table x below, ap (λ (m : ℕ). times rows m table x) depth)

  way_reached : (x : ℕ) → on_path rows key (suc levels) table x ≤ times rows (suc levels) table x
  way_reached x = on_path-times found rows key (suc levels) 0 table 0 (2 ^ 64) root_tree (omega arith) fits x

  before : Before rows new key (suc levels) 0 table 0 (2 ^ 64)
  before = record {
    tree = root_tree;
    low = omega arith;
    high = fits;
    absent = ap (λ (m : ℕ). lookup (nat_eq key) (entries rows m table 0)) (sym depth) ∙ absent;
    once = λ x. omega (arith, root_reached x, sound.once x);
    same = λ x some off. planted.same x (omega (arith, root_reached x)) off;
  }

  few : levels ≤ 11
  few = let (n, many, at_most) = levels_of-bounds rows table in omega (arith, depth, many, at_most)

  root : IsRootAfter rows new made key levels table
  root =
      IsRootAfter-written rows new made key found given planted.some (λ i inside. omega (arith, planted.bounded i inside)) (subst IsRecord (sym planted.record_there) record_row) levels table few before
      (λ x above. omega (arith, root_reached x, sound.bounded x above)) planted.written planted.root_written

  root_depth : levels_of new table ≡ suc root.now
  root_depth = levels_of-tree found new root.now 0 table 0 (2 ^ 64) root.tree root.few

  -- of what is reached, only what this table's tree reaches has another row now
  same_else : (x : ℕ) → 0 < reached rows x → times rows (levels_of rows table) table x ≡ 0 → new x ≡ rows x
  same_else x there off = planted.same x there (omega (arith, way_reached x, ap (λ (m : ℕ). times rows m table x) depth))

  two : (t x : ℕ) → t < 16 → t ≢ table → times rows (levels_of rows t) t x + times rows (suc levels) table x ≤ 1
  two t x t_below other = omega (arith, ap (λ (m : ℕ). times rows m table x) depth, two_tables rows table t x sound below t_below other)

  -- they reach besides only objects that were made
  pub reached-planted : (x : ℕ) → reached new x ≤ reached rows x + total (λ o. same_oid o x) made
  reached-planted x =
      omega (
        arith,
        reached-one found rows new table sound below same_else x,
        root.times x,
        ap (λ (m : ℕ). times new m table x) root_depth,
        ap (λ (m : ℕ). times rows m table x) depth,
      )

  other_tree : (t : ℕ) → t < 16 → t ≢ table → IsTree new (levels_of new t) 0 t 0 (2 ^ 64)
  other_tree t t_below other =
      subst (λ (m : ℕ). IsTree new m 0 t 0 (2 ^ 64)) (sym (kept_depth found rows new table sound below same_else t t_below other)) (kept found rows new table sound below same_else t t_below other).tree

  -- they are sound
  pub IsSound-planted : IsSound new
  IsSound-planted = record {
    trees = λ t t_below. elim (cases_lt t table) as (λ _. IsTree new (levels_of new t) 0 t 0 (2 ^ 64)) [
      | inl less ↦ other_tree t t_below (λ e. omega arith)
      | inr not_less ↦ elim (cases_lt table t) as (λ _. IsTree new (levels_of new t) 0 t 0 (2 ^ 64)) [
        | inl more ↦ other_tree t t_below (λ e. omega arith)
        | inr same ↦
            let here : table ≡ t = omega arith in
            subst (λ (m : ℕ). IsTree new (levels_of new m) 0 m 0 (2 ^ 64)) here (subst (λ (m : ℕ). IsTree new m 0 table 0 (2 ^ 64)) (sym root_depth) root.tree)
      ]
    ];
    once = λ x. elim (zero_or_more (total (λ o. same_oid o x) made)) as (λ _. reached new x ≤ 1) [
      | inl none ↦ omega (arith, reached-planted x, sound.once x)
      | inr more ↦ omega (arith, reached-planted x, planted.fresh x more, planted.apart x)
    ];
    bounded = λ x above. omega (arith, reached-planted x, sound.bounded x above, made_above made OID_LIMIT x planted.bounded above);
  }

  -- each record keeps its row
  record_kept : (t k oid : ℕ) → t < 16 → record_in rows t k ≡ Some oid → new oid ≡ rows oid
  record_kept t k oid t_below is =
      let there = occurs-found (table_entries rows t) k oid is in
      let reached_by : 1 ≤ times rows (levels_of rows t) t oid = omega (arith, there, occurs-entries rows (levels_of rows t) t 0 oid) in
      let off : on_path rows key (suc levels) table oid ≡ 0 = elim (zero_or_more (on_path rows key (suc levels) table oid)) as (λ _. on_path rows key (suc levels) table oid ≡ 0) [
        | inl none ↦ none
        | inr on ↦
            elim (cases_lt t table) as (λ _. on_path rows key (suc levels) table oid ≡ 0) [
              | inl less ↦ omega (arith, two t oid t_below (λ e. omega arith), way_reached oid)
              | inr not_less ↦ elim (cases_lt table t) as (λ _. on_path rows key (suc levels) table oid ≡ 0) [
                | inl more ↦ omega (arith, two t oid t_below (λ e. omega arith), way_reached oid)
                | inr same ↦
                    let here : t ≡ table = omega arith in
                    omega (
                      arith,
                      on_path-occurs found rows key (suc levels) 0 table 0 (2 ^ 64) root_tree (omega arith) fits oid,
                      root_reached oid,
                      sound.once oid,
                      there,
                      ap (λ (n : ℕ). occurs (table_entries rows n) oid) here,
                      ap (λ (m : ℕ). occurs (entries rows m table 0) oid) depth,
                    )
              ]
            ]
      ] in
      planted.same oid (omega (arith, reached_by, reached-table rows t oid t_below)) off

  value_kept : (t k : ℕ) → t < 16 → (r : Option ℕ) → record_in rows t k ≡ r → option_and_then (λ o. record_value (new o)) r ≡ option_and_then (λ o. record_value (rows o)) r
  value_kept t k t_below None is = refl
  value_kept t k t_below (Some oid) is = ap record_value (record_kept t k oid t_below is)

  value_stays : (t k : ℕ) → t < 16 → record_in new t k ≡ record_in rows t k → value_in new t k ≡ value_in rows t k
  value_stays t k t_below same = ap (option_and_then (λ o. record_value (new o))) same ∙ value_kept t k t_below (record_in rows t k) refl

  now_entries : (k : ℕ) → record_in new table k ≡ lookup (nat_eq k) (root.entries.before ++ (key, slice_index made 0) ∷ root.entries.rest)
  now_entries k = ap (λ (m : ℕ). lookup (nat_eq k) (entries new m table 0)) root_depth ∙ ap (lookup (nat_eq k)) root.entries.is

  were_entries : (k : ℕ) → record_in rows table k ≡ lookup (nat_eq k) (root.entries.before ++ root.entries.rest)
  were_entries k = ap (λ (m : ℕ). lookup (nat_eq k) (entries rows m table 0)) depth ∙ ap (lookup (nat_eq k)) root.entries.was

  both_true : (a b : Bool) → (a && b) ≡ true → (a ≡ true) × (b ≡ true)
  both_true true b e = (refl, e)
  both_true false b e = absurd (cc)

  either_false : (t k : ℕ) → ((t == table) && (k == key)) ≡ false → (t ≢ table) ⊎ ((t ≡ table) × (k ≢ key))
  either_false t k e = elim (cases_lt t table) as (λ _. (t ≢ table) ⊎ ((t ≡ table) × (k ≢ key))) [
    | inl less ↦ inl (λ same. omega arith)
    | inr not_less ↦ elim (cases_lt table t) as (λ _. (t ≢ table) ⊎ ((t ≡ table) × (k ≢ key))) [
      | inl more ↦ inl (λ same. omega arith)
      | inr equal ↦ let here : t ≡ table = omega arith in inr (here, λ same. grind (arith, nat_tests))
    ]
  ]

  -- the key has the value of the row, and each other key of each table what it had
  pub IsSetAt-planted : IsSetAt rows new table key (record_value row)
  IsSetAt-planted t k t_below =
      elim ((t == table) && (k == key)) as (λ b. ((t == table) && (k == key)) ≡ b → value_in new t k ≡ cond b (record_value row) (value_in rows t k)) [
        | true ↦ λ e.
            let both = both_true (t == table) (k == key) e in
            let none = sym (were_entries key) ∙ absent in
            ap (λ (n : ℕ). value_in new n k) (same_test t table both.0) ∙ ap (value_in new table) (same_test k key both.1)
            ∙ ap (option_and_then (λ o. record_value (new o))) (now_entries key ∙ lookup-inserted root.entries.before root.entries.rest key (slice_index made 0) none)
            ∙ ap record_value planted.record_there
        | false ↦ λ e. elim (either_false t k e) as (λ _. value_in new t k ≡ value_in rows t k) [
          | inl other ↦ value_other_table found rows new table sound below same_else t k t_below other
          | inr here ↦
              let same : record_in new t k ≡ record_in rows t k =
              ap (λ (n : ℕ). record_in new n k) here.0
              ∙ now_entries k ∙ lookup-inserted_other root.entries.before root.entries.rest k key (slice_index made 0) (other_key k key here.1) ∙ sym (were_entries k)
              ∙ ap (λ (n : ℕ). record_in rows n k) (sym here.0) in
              value_stays t k t_below same
        ]
      ] refl
