-- Rows of zeros: sound ones.
use Rattle.std.proofs.Common.{◌≡◌, ℕ, zero, suc, ◌^◌, ◌<◌, ◌≤◌, true, List, [], Some, None, refl, sym, ap, ◌∙◌, subst, inl, inr, arith}
use Rattle.std.specs.Option.{option_map_or}
use Rattle.std.proofs.lemmas.Bool.{cases_eq}
use Rattle.erm_model.specs.Rows.{Rows}
use Rattle.erm_node.specs.Node.{first_child, node_of, node_row, pairs_of}
use Rattle.erm_node.specs.Sound.{IsSound, inner_levels, levels_of, reached_below}
use Rattle.erm_node.specs.Tree.{Fan, IsTree, same_oid, times, total}
use Rattle.erm_node.proofs.Reached.{reached-is}
use Rattle.erm_node.proofs.Walks.{same_oid-le, same_oid-other}
use Rattle.erm_node.proofs.Zeros.{zeros}

-- the row of zeros is the leaf without pairs
leaf_zeros : node_of zeros ≡ Some (record { leaf = true; pairs = [] })
unfolding node_of node_row
leaf_zeros = refl

pairs_zeros : pairs_of zeros ≡ []
unfolding pairs_of node_of node_row
pairs_zeros = refl

child_zeros : first_child zeros ≡ None
unfolding first_child node_of node_row
child_zeros = refl

-- an object's tree is that leaf
pub one_level : (rows : Rows) (oid : ℕ) → rows oid ≡ zeros → levels_of rows oid ≡ 1
unfolding levels_of
one_level rows oid is = ap (λ row. suc (option_map_or (λ child. suc (inner_levels rows 10 child)) (first_child row) 0)) is ∙ ap (λ child. suc (option_map_or (λ child. suc (inner_levels rows 10 child)) child 0)) child_zeros

pub no_pairs : (row : List ℕ) → row ≡ zeros → pairs_of row ≡ []
no_pairs row is = ap pairs_of is ∙ pairs_zeros

leaf : (rows : Rows) (oid hi : ℕ) → rows oid ≡ zeros → IsTree rows 1 0 oid 0 hi
leaf rows oid hi is = record {
  node = ap node_of is ∙ leaf_zeros ∙ ap (λ pairs. Some (record { leaf = true; pairs = pairs })) (sym (no_pairs (rows oid) is));
  enough = omega arith;
  starts = omega arith;
  fan = subst (λ pairs. Fan (λ child from to. IsTree rows 0 4 child from to) pairs hi) (sym (no_pairs (rows oid) is)) tt;
}

-- it reaches itself alone
times-leaf : (rows : Rows) (oid x : ℕ) → rows oid ≡ zeros → times rows (levels_of rows oid) oid x ≡ same_oid oid x
times-leaf rows oid x is =
    ap (λ levels. times rows levels oid x) (one_level rows oid is)
    ∙ (let none : total (λ pair. times rows 0 pair.1 x) (pairs_of (rows oid)) ≡ 0 = ap (λ pairs. total (λ pair. times rows 0 pair.1 x) pairs) (no_pairs (rows oid) is) in omega (arith, none))

none_below : (rows : Rows) (n x : ℕ) → ((oid : ℕ) → oid < n → rows oid ≡ zeros) → n ≤ x → reached_below rows n x ≡ 0
none_below rows zero x zero_rows above = refl
none_below rows (suc n) x zero_rows above =
    let own = times-leaf rows n x (zero_rows n (omega arith)) in
    let other = same_oid-other n x (λ same. omega (arith, same, above)) in
    omega (arith, own, other, none_below rows n x (λ oid below. zero_rows oid (omega (arith, below))) (omega (arith, above)))

one_below : (rows : Rows) (n x : ℕ) → ((oid : ℕ) → oid < n → rows oid ≡ zeros) → reached_below rows n x ≤ 1
one_below rows zero x zero_rows = omega arith
one_below rows (suc n) x zero_rows =
    let own = times-leaf rows n x (zero_rows n (omega arith)) in
    elim (cases_eq x n) as (λ _. reached_below rows (suc n) x ≤ 1) [
      | inl same ↦ omega (arith, own, same_oid-le n x, none_below rows n x (λ oid below. zero_rows oid (omega (arith, below))) (omega (arith, same)))
      | inr differ ↦ omega (arith, own, same_oid-other n x differ, one_below rows n x (λ oid below. zero_rows oid (omega (arith, below))))
    ]

-- rows of zeros are sound
pub zeros-sound : (rows : Rows) → ((oid : ℕ) → oid < 16 → rows oid ≡ zeros) → IsSound rows
zeros-sound rows zero_rows = record {
  trees = λ table below. subst (λ levels. IsTree rows levels 0 table 0 (2 ^ 64)) (sym (one_level rows table (zero_rows table below))) (leaf rows table (2 ^ 64) (zero_rows table below));
  once = λ x. omega (arith, reached-is rows x, one_below rows 16 x zero_rows);
  bounded = λ x above. reached-is rows x ∙ none_below rows 16 x zero_rows (omega (arith, above));
}
