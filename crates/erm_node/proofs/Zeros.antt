-- Rows of zeros: no record has one, and of the nodes an empty root alone.
use Rattle.std.proofs.Common.{◌≡◌, ℕ, zero, suc, ◌^◌, ◌<◌, ◌≤◌, List, [], ◌∷◌, length, replicate, refl, sym, ap, ◌∙◌, subst, inl, inr, arith}
use Rattle.std.specs.Prelude.{slice_index}
use Rattle.erm_model.specs.Rows.{Rows}
use Rattle.erm_record.specs.Record.{IsRecord}
use Rattle.erm_node.specs.Node.{node_of, node_row, pairs_of}
use Rattle.erm_node.specs.Tree.{Fan, IsTree, first_key, same_oid, times, total}
use Rattle.erm_node.specs.Sound.{IsSound, levels_of, reached, reached_below}
use Rattle.erm_node.proofs.Reached.{reached-is}
use Rattle.erm_node.proofs.Walks.{same_oid-other}

-- the row of zeros
abbrev pub zeros : List ℕ
zeros = replicate 16 0

-- no record has it
not_record : IsRecord zeros → ⊥
not_record is = elim is as (λ _. ⊥) [
  | inl absent ↦ let first : slice_index zeros 0 ≡ 1 = ap (λ (row : List ℕ). slice_index row 0) absent in omega (arith, first)
  | inr value ↦ let first : slice_index zeros 0 ≡ 2 = ap (λ (row : List ℕ). slice_index row 0) value.2 in omega (arith, first)
]

-- it has no pairs
pairs_of-zeros : pairs_of zeros ≡ []
unfolding pairs_of node_of node_row
pairs_of-zeros = refl

no_pairs : (row : List ℕ) → row ≡ zeros → length (pairs_of row) ≡ 0
no_pairs row is = ap (λ (r : List ℕ). length (pairs_of r)) is ∙ ap length pairs_of-zeros

-- another object
other_root : (rows : Rows) (levels oid lo hi x : ℕ) → IsTree rows levels 4 oid lo hi → rows x ≡ zeros → same_oid oid x ≡ 0
other_root rows zero oid lo hi x tree none = same_oid-other oid x (λ same. not_record (subst IsRecord (ap rows (sym same) ∙ none) tree))
other_root rows (suc levels) oid lo hi x tree none = same_oid-other oid x (λ same. omega (arith, tree.enough, no_pairs (rows oid) (ap rows (sym same) ∙ none)))

-- a fan doesn't reach it where its trees don't
Fan-other : (P : ℕ → ℕ → ℕ → Type 0) (f : ℕ → ℕ) → ((oid lo hi : ℕ) → P oid lo hi → f oid ≡ 0) → (pairs : List (ℕ × ℕ)) (hi : ℕ) → Fan P pairs hi → total (λ pair. f pair.1) pairs ≡ 0
Fan-other P f each [] hi fan = refl
Fan-other P f each (pair ∷ pairs) hi (first, less, rest) = omega (arith, each pair.1 pair.0 (first_key pairs hi) first, Fan-other P f each pairs hi rest)

-- a tree below a root doesn't reach a row of zeros
times-zeros : (rows : Rows) (levels oid lo hi x : ℕ) → IsTree rows levels 4 oid lo hi → rows x ≡ zeros → times rows levels oid x ≡ 0
times-zeros rows zero oid lo hi x tree none = other_root rows zero oid lo hi x tree none
times-zeros rows (suc levels) oid lo hi x tree none =
    omega (
      arith,
      other_root rows (suc levels) oid lo hi x tree none,
      Fan-other (λ child from to. IsTree rows levels 4 child from to) (λ child. times rows levels child x) (λ child from to part. times-zeros rows levels child from to x part none) (pairs_of (rows oid)) hi tree.fan,
    )

-- nor does the tree of another table
times-table : (rows : Rows) (levels table hi x : ℕ) → 0 < levels → IsTree rows levels 0 table 0 hi → (x ≡ table → ⊥) → rows x ≡ zeros → times rows levels table x ≡ 0
times-table rows zero table hi x some tree other none = absurd (omega (arith, some))
times-table rows (suc levels) table hi x some tree other none =
    omega (
      arith,
      same_oid-other table x other,
      Fan-other (λ child from to. IsTree rows levels 4 child from to) (λ child. times rows levels child x) (λ child from to part. times-zeros rows levels child from to x part none) (pairs_of (rows table)) hi tree.fan,
    )

some_levels : (rows : Rows) (oid : ℕ) → 0 < levels_of rows oid
unfolding levels_of
some_levels rows oid = omega arith

below_zeros : (rows : Rows) (x n : ℕ) → IsSound rows → n ≤ 16 → 16 ≤ x → rows x ≡ zeros → reached_below rows n x ≡ 0
below_zeros rows x zero sound few above none = refl
below_zeros rows x (suc n) sound few above none =
    omega (
      arith,
      below_zeros rows x n sound (omega (arith, few)) above none,
      times-table rows (levels_of rows n) n (2 ^ 64) x (some_levels rows n) (sound.trees n (omega (arith, few))) (λ same. omega (arith, same, few, above)) none,
    )

-- sound rows reach a row of zeros as the root of a table alone
pub reached-zeros : (rows : Rows) (x : ℕ) → IsSound rows → 16 ≤ x → rows x ≡ zeros → reached rows x ≡ 0
reached-zeros rows x sound above none = reached-is rows x ∙ below_zeros rows x 16 sound (omega arith) above none
