-- Rows that differ at records alone: the trees, what they reach and the entries stay.
use Rattle.std.proofs.Common.{◌≡◌, ◌≢◌, ℕ, zero, suc, ◌^◌, ◌≤◌, List, [], ◌∷◌, ◌++◌, length, true, false, cond, Option, Some, None, refl, sym, ap, ◌∙◌, subst, arith}
use Rattle.std.specs.Prelude.{◌==◌, nat_eq, flat_map, option_and_then}
use Rattle.std.specs.Option.{option_map_or}
use Rattle.std.specs.Map.{lookup}
use Rattle.std.proofs.lemmas.Bool.Decides.{nat_tests}
use Rattle.erm_model.specs.Rows.{Rows}
use Rattle.erm_record.specs.Record.{IsRecord}
use Rattle.erm_node.specs.Node.{Shape, node_of, pairs_of, first_child}
use Rattle.erm_node.specs.Sound.{IsSound, levels_of, inner_levels, reached, reached_below}
use Rattle.erm_node.specs.Tree.{Fan, first_key, total, same_oid, Starts, IsTree, entries, times}
use Rattle.erm_node.specs.TreeMap.{record_in}
use Rattle.erm_tree.proofs.Fans.{total-append}

pairs_of-same : (row new : List ℕ) → node_of new ≡ node_of row → pairs_of new ≡ pairs_of row
unfolding pairs_of
pairs_of-same row new same = ap (λ (o : Option Shape). option_map_or (λ shape. shape.pairs) o []) same

first_child-same : (row new : List ℕ) → node_of new ≡ node_of row → first_child new ≡ first_child row
unfolding first_child
first_child-same row new same = ap (λ (o : Option Shape). option_and_then (λ shape. Rattle.erm_node.specs.Node.child_of shape.leaf shape.pairs) o) same

flat_map-same : (f g : ℕ × ℕ → List (ℕ × ℕ)) (ps : List (ℕ × ℕ)) → ((p : ℕ × ℕ) → f p ≡ g p) → flat_map f ps ≡ flat_map g ps
flat_map-same f g [] same = refl
flat_map-same f g (p ∷ ps) same = ap (λ (es : List (ℕ × ℕ)). es ++ flat_map f ps) (same p) ∙ ap (λ (es : List (ℕ × ℕ)). g p ++ es) (flat_map-same f g ps same)

total-same : (f g : ℕ × ℕ → ℕ) (ps : List (ℕ × ℕ)) → ((p : ℕ × ℕ) → f p ≡ g p) → total f ps ≡ total g ps
total-same f g [] same = refl
total-same f g (p ∷ ps) same = omega (arith, same p, total-same f g ps same)

Fan-same : (P Q : ℕ → ℕ → ℕ → Type 0) (ps : List (ℕ × ℕ)) (hi : ℕ) → ((oid from to : ℕ) → P oid from to → Q oid from to) → Fan P ps hi → Fan Q ps hi
Fan-same P Q [] hi each fan = tt
Fan-same P Q (p ∷ ps) hi each fan = (each p.1 p.0 (first_key ps hi) fan.0, fan.1, Fan-same P Q ps hi each fan.2)

-- rows whose nodes are the same, and whose records are records still
pub record DifferAtRecords (rows new : Rows) : Type 0 where
  pub nodes : (x : ℕ) → node_of (new x) ≡ node_of (rows x)
  pub records : (x : ℕ) → IsRecord (rows x) → IsRecord (new x)

module _ (rows new : Rows) (differ : DifferAtRecords rows new) where
  pairs_same : (x : ℕ) → pairs_of (new x) ≡ pairs_of (rows x)
  pairs_same x = pairs_of-same (rows x) (new x) (differ.nodes x)

  entries-same : (levels oid lo : ℕ) → entries new levels oid lo ≡ entries rows levels oid lo
  entries-same zero oid lo = refl
  entries-same (suc levels) oid lo =
      ap (flat_map (λ pair. entries new levels pair.1 pair.0)) (pairs_same oid)
      ∙ flat_map-same (λ pair. entries new levels pair.1 pair.0) (λ pair. entries rows levels pair.1 pair.0) (pairs_of (rows oid)) (λ p. entries-same levels p.1 p.0)

  times-same : (levels oid x : ℕ) → times new levels oid x ≡ times rows levels oid x
  times-same zero oid x = refl
  times-same (suc levels) oid x =
      omega (
        arith,
        ap (total (λ pair. times new levels pair.1 x)) (pairs_same oid),
        total-same (λ pair. times new levels pair.1 x) (λ pair. times rows levels pair.1 x) (pairs_of (rows oid)) (λ p. times-same levels p.1 x),
      )

  inner_levels-same : (limit oid : ℕ) → inner_levels new limit oid ≡ inner_levels rows limit oid
  inner_levels-same zero oid = refl
  inner_levels-same (suc limit) oid =
      ap (λ (child : Option ℕ). option_map_or (λ c. suc (inner_levels new limit c)) child 0) (first_child-same (rows oid) (new oid) (differ.nodes oid))
      ∙ elim (first_child (rows oid)) as (λ child. option_map_or (λ c. suc (inner_levels new limit c)) child 0 ≡ option_map_or (λ c. suc (inner_levels rows limit c)) child 0) [
        | None ↦ refl
        | Some c ↦ ap suc (inner_levels-same limit c)
      ]

  levels_of-same : (oid : ℕ) → levels_of new oid ≡ levels_of rows oid
  unfolding levels_of
  levels_of-same oid = ap suc (inner_levels-same 11 oid)

  reached_below-same : (n x : ℕ) → reached_below new n x ≡ reached_below rows n x
  reached_below-same zero x = refl
  reached_below-same (suc n) x =
      omega (arith, reached_below-same n x, ap (λ (m : ℕ). times new m n x) (levels_of-same n), times-same (levels_of rows n) n x)

  -- they reach the same
  pub reached-same : (x : ℕ) → reached new x ≡ reached rows x
  unfolding reached
  reached-same x = reached_below-same 16 x

  IsTree-same : (levels least oid lo hi : ℕ) → IsTree rows levels least oid lo hi → IsTree new levels least oid lo hi
  IsTree-same zero least oid lo hi tree = differ.records oid tree
  IsTree-same (suc levels) least oid lo hi tree =
      let same = pairs_same oid in
      record {
        node = differ.nodes oid ∙ tree.node ∙ ap (λ (ps : List (ℕ × ℕ)). Some (record { leaf = levels == 0; pairs = ps })) (sym same);
        enough = subst (λ (ps : List (ℕ × ℕ)). least ≤ length ps) (sym same) tree.enough;
        starts = subst (λ (ps : List (ℕ × ℕ)). Starts (levels == 0) lo (first_key ps lo)) (sym same) tree.starts;
        fan = subst (λ (ps : List (ℕ × ℕ)). Fan (λ child from to. IsTree new levels 4 child from to) ps hi) (sym same)
            (Fan-same (λ child from to. IsTree rows levels 4 child from to) (λ child from to. IsTree new levels 4 child from to) (pairs_of (rows oid)) hi (λ child from to is. IsTree-same levels 4 child from to is) tree.fan);
      }

  -- they are sound
  pub IsSound-same : IsSound rows → IsSound new
  IsSound-same sound = record {
    trees = λ table below. subst (λ (m : ℕ). IsTree new m 0 table 0 (2 ^ 64)) (sym (levels_of-same table)) (IsTree-same (levels_of rows table) 0 table 0 (2 ^ 64) (sound.trees table below));
    once = λ x. omega (arith, reached-same x, sound.once x);
    bounded = λ x above. omega (arith, reached-same x, sound.bounded x above);
  }

  -- each key has the record that it had
  pub record_in-same : (table key : ℕ) → record_in new table key ≡ record_in rows table key
  record_in-same table key =
      ap (lookup (nat_eq key)) (entries-same (levels_of new table) table 0)
      ∙ ap (λ (m : ℕ). lookup (nat_eq key) (entries rows m table 0)) (levels_of-same table)

-- how often entries have an object as a record
abbrev pub occurs : List (ℕ × ℕ) → ℕ → ℕ
occurs es x = total (λ e. same_oid e.1 x) es

same_oid-itself : (oid : ℕ) → same_oid oid oid ≡ 1
same_oid-itself oid = grind (arith, nat_tests)

-- what occurs in lists made of each pair
pub occurs-flat_map : (E : ℕ × ℕ → List (ℕ × ℕ)) (f : ℕ × ℕ → ℕ) (ps : List (ℕ × ℕ)) (x : ℕ) → ((p : ℕ × ℕ) → occurs (E p) x ≤ f p) → occurs (flat_map E ps) x ≤ total f ps
occurs-flat_map E f [] x each = omega arith
occurs-flat_map E f (p ∷ ps) x each = omega (arith, total-append (λ (e : ℕ × ℕ). same_oid e.1 x) (E p) (flat_map E ps), each p, occurs-flat_map E f ps x each)

-- a tree reaches each record of its entries
pub occurs-entries : (rows : Rows) (levels oid lo x : ℕ) → occurs (entries rows levels oid lo) x ≤ times rows levels oid x
occurs-entries rows zero oid lo x = omega arith
occurs-entries rows (suc levels) oid lo x =
    omega (arith, occurs-flat_map (λ pair. entries rows levels pair.1 pair.0) (λ pair. times rows levels pair.1 x) (pairs_of (rows oid)) x (λ p. occurs-entries rows levels p.1 p.0 x))

some_same : (a b : ℕ) → Some a ≡ Some b → a ≡ b
some_same a b e = cc

none_some : (a : ℕ) → let none : Option ℕ = None in none ≡ Some a → ⊥
none_some a e = cc

-- what is found occurs
pub occurs-found : (es : List (ℕ × ℕ)) (key oid : ℕ) → lookup (nat_eq key) es ≡ Some oid → 1 ≤ occurs es oid
occurs-found [] key oid is = absurd (none_some oid is)
occurs-found (e ∷ es) key oid is =
    elim (nat_eq key e.0) as (λ b. cond b (Some e.1) (lookup (nat_eq key) es) ≡ Some oid → 1 ≤ occurs (e ∷ es) oid) [
      | true ↦ λ h. let same = some_same e.1 oid h in omega (arith, ap (λ (o : ℕ). same_oid o oid) same, same_oid-itself oid)
      | false ↦ λ h. omega (arith, occurs-found es key oid h)
    ] is

-- what two keys have occurs twice
pub occurs-twice : (es : List (ℕ × ℕ)) (key other oid : ℕ) → key ≢ other → lookup (nat_eq key) es ≡ Some oid → lookup (nat_eq other) es ≡ Some oid → 2 ≤ occurs es oid
occurs-twice [] key other oid apart is other_is = absurd (none_some oid is)
occurs-twice (e ∷ es) key other oid apart is other_is =
    let here : Some e.1 ≡ Some oid → same_oid e.1 oid ≡ 1 = λ (h : Some e.1 ≡ Some oid). ap (λ (o : ℕ). same_oid o oid) (some_same e.1 oid h) ∙ same_oid-itself oid in
    elim (nat_eq key e.0) as (λ b. nat_eq key e.0 ≡ b → cond b (Some e.1) (lookup (nat_eq key) es) ≡ Some oid → 2 ≤ occurs (e ∷ es) oid) [
      | true ↦ λ k h. elim (nat_eq other e.0) as (λ b. nat_eq other e.0 ≡ b → cond b (Some e.1) (lookup (nat_eq other) es) ≡ Some oid → 2 ≤ occurs (e ∷ es) oid) [
        | true ↦ λ o i. absurd (grind (arith, nat_tests))
        | false ↦ λ o i. omega (arith, here h, occurs-found es other oid i)
      ] refl other_is
      | false ↦ λ k h. elim (nat_eq other e.0) as (λ b. cond b (Some e.1) (lookup (nat_eq other) es) ≡ Some oid → 2 ≤ occurs (e ∷ es) oid) [
        | true ↦ λ i. omega (arith, here i, occurs-found es key oid h)
        | false ↦ λ i. omega (arith, occurs-twice es key other oid apart h i)
      ] other_is
    ] refl is
