-- What the trees of all tables reach, table by table.
use Rattle.std.proofs.Common.{◌≡◌, ℕ, zero, suc, ◌+◌, ◌-◌, ◌^◌, ◌≤◌, ◌<◌, List, Bool, false, replicate, refl, sym, ap, ◌∙◌, subst, below_more, arith}
use Rattle.std.specs.Prelude.{slice_index_or}
use Rattle.erm_model.specs.declared.limits.TheConstants.{OID_LIMIT}
use Rattle.erm_node.proofs.Walks.{marked-none}
use Rattle.erm_model.specs.Rows.{Rows}
use Rattle.erm_node.specs.Tree.{IsTree, times}
use Rattle.erm_node.specs.Sound.{IsSound, levels_of, reached, reached_below}
use Rattle.erm_node.specs.Walk.{IsFreeTree, marked}

-- over all tables
pub reached-is : (rows : Rows) (x : ℕ) → reached rows x ≡ reached_below rows 16 x
unfolding reached
reached-is rows x = refl

-- more tables reach more
pub reached_below-le : (rows : Rows) (more table x : ℕ) → reached_below rows table x ≤ reached_below rows (more + table) x
reached_below-le rows zero table x = omega (arith, ap (λ (n : ℕ). reached_below rows n x) (let e : zero + table ≡ table = omega arith in e))
reached_below-le rows (suc more) table x =
    omega (arith, reached_below-le rows more table x, ap (λ (n : ℕ). reached_below rows n x) (let e : suc more + table ≡ suc (more + table) = omega arith in e))

-- a table and those before it
pub reached-table : (rows : Rows) (table x : ℕ) → table < 16 → reached_below rows table x + times rows (levels_of rows table) table x ≤ reached rows x
reached-table rows table x below =
    let all : (15 - table) + suc table ≡ 16 = omega arith in
    omega (arith, reached_below-le rows (15 - table) (suc table) x, ap (λ (n : ℕ). reached_below rows n x) all, reached-is rows x)

-- a table's tree in sound rows is free of those before it
pub IsSound-free : (rows : Rows) (before : ℕ → ℕ) (table : ℕ) → IsSound rows → table < 16 → ((x : ℕ) → before x ≡ reached_below rows table x) → IsFreeTree rows before (levels_of rows table) 0 table 0 (2 ^ 64)
IsSound-free rows before table sound below same = record {
  tree = sound.trees table below;
  once = λ x. omega (arith, same x, reached-table rows table x below, sound.once x);
  bounded = λ x above. omega (arith, reached-table rows table x below, sound.bounded x above);
}

-- the tables below a number have trees that reach just what is marked
pub record AreTables (rows : Rows) (marks : List Bool) (table : ℕ) : Type 0 where
  pub trees : (k : ℕ) → k < table → IsTree rows (levels_of rows k) 0 k 0 (2 ^ 64)
  pub counted : (x : ℕ) → marked marks x ≡ reached_below rows table x
  pub bounded : (x : ℕ) → OID_LIMIT ≤ x → reached_below rows table x ≡ 0

-- one table more
pub AreTables-more : (rows : Rows) (marks later : List Bool) (table : ℕ) → AreTables rows marks table → IsFreeTree rows (marked marks) (levels_of rows table) 0 table 0 (2 ^ 64)
    → ((x : ℕ) → marked later x ≡ marked marks x + times rows (levels_of rows table) table x) → AreTables rows later (table + 1)
AreTables-more rows marks later table so_far free now =
    let next : (x : ℕ) → reached_below rows (table + 1) x ≡ reached_below rows table x + times rows (levels_of rows table) table x =
    λ x. ap (λ (n : ℕ). reached_below rows n x) (let e : table + 1 ≡ suc table = omega arith in e) in
    record {
      trees = below_more (λ k. IsTree rows (levels_of rows k) 0 k 0 (2 ^ 64)) table so_far.trees free.tree;
      counted = λ x. omega (arith, now x, so_far.counted x, next x);
      bounded = λ x above. omega (arith, so_far.bounded x above, free.bounded x above, next x);
    }

-- all tables
pub IsSound-tables : (rows : Rows) (marks : List Bool) (table : ℕ) → 16 ≤ table → table ≤ 16 → AreTables rows marks table → ((x : ℕ) → marked marks x ≤ 1) → IsSound rows
IsSound-tables rows marks table low high all few =
    let is : table ≡ 16 = omega arith in
    let same : (x : ℕ) → reached_below rows table x ≡ reached rows x = λ x. ap (λ (n : ℕ). reached_below rows n x) is ∙ sym (reached-is rows x) in
    record {
      trees = λ k below. all.trees k (omega arith);
      once = λ x. omega (arith, few x, all.counted x, same x);
      bounded = λ x above. omega (arith, all.bounded x above, same x);
    }

-- the root and the levels of a table, as they were found
pub at_table : (P : ℕ → ℕ → Type 0) (rows : Rows) (levels oid table : ℕ) → levels ≡ levels_of rows oid → oid ≡ table → P levels oid → P (levels_of rows table) table
at_table P rows levels oid table levels_are oid_is there =
    subst (λ (o : ℕ). P (levels_of rows o) o) oid_is (subst (λ (n : ℕ). P n oid) levels_are there)

-- the other way
pub from_table : (P : ℕ → ℕ → Type 0) (rows : Rows) (levels oid table : ℕ) → levels ≡ levels_of rows oid → oid ≡ table → P (levels_of rows table) table → P levels oid
from_table P rows levels oid table levels_are oid_is there =
    subst (λ (n : ℕ). P n oid) (sym levels_are) (subst (λ (o : ℕ). P (levels_of rows o) o) (sym oid_is) there)

-- at first nothing is marked
pub AreTables-none : (rows : Rows) → AreTables rows (replicate OID_LIMIT false) 0
AreTables-none rows = record {
  trees = λ k below. absurd (omega arith);
  counted = λ x. marked-none (replicate OID_LIMIT false) x (get_or-replicate_same OID_LIMIT x);
  bounded = λ x above. refl;
}
  where
    get_or-replicate_same : (n x : ℕ) → slice_index_or (replicate n false) x false ≡ false
    get_or-replicate_same zero x = refl
    get_or-replicate_same (suc n) zero = refl
    get_or-replicate_same (suc n) (suc x) = get_or-replicate_same n x
