-- What stands on the way to a key: nodes of its table alone.
use Rattle.std.proofs.Common.{◌≡◌, ℕ, zero, suc, ◌^◌, ◌<◌, List, [], ◌∷◌, ◌++◌, Bool, true, false, cond, Some, None, refl, ap, ◌∙◌, subst, inl, inr, arith}
use Rattle.std.specs.Prelude.{◌==◌, nat_eq, flat_map}
use Rattle.std.specs.Map.{lookup}
use Rattle.std.proofs.lemmas.Bool.{false≢true}
use Rattle.std.proofs.lemmas.Bool.Decides.{nat_tests}
use Rattle.erm_model.specs.Rows.{Rows}
use Rattle.erm_record.specs.Record.{IsRecord}
use Rattle.erm_node.specs.Node.{Shape, node_of, pairs_of}
use Rattle.erm_node.specs.Sound.{levels_of}
use Rattle.erm_node.specs.Tree.{Fan, first_key, total, same_oid, IsTree, entries, times}
use Rattle.erm_tree.specs.Reads.{AnyOfFan, IsMet}
use Rattle.erm_tree.specs.Tables.{OtherRootsAreOffWay, RecordsAreOffWay}
use Rattle.erm_tree.proofs.Insertion.{Each}
use Rattle.erm_tree.proofs.Standing.{levels_of-bounds}
use Rattle.erm_tree.proofs.Tables.{one_table}

same_oid-itself : (oid x : ℕ) → x ≡ oid → same_oid oid x ≡ 1
same_oid-itself oid x same = grind (arith, nat_tests)

module _ (rows : Rows) (r : Bool) (low high : ℕ) where
  met_in_fan : (levels x : ℕ) → ((oid lo hi : ℕ) → IsMet r rows low high levels oid lo hi x → 0 < times rows levels oid x) → (ps : List (ℕ × ℕ)) (hi : ℕ)
      → AnyOfFan (λ child from to. IsMet r rows low high levels child from to x) ps hi → 0 < total (λ pair. times rows levels pair.1 x) ps
  met_in_fan levels x each [] hi any = absurd any
  met_in_fan levels x each (p ∷ ps) hi any = elim any as (λ _. 0 < total (λ pair. times rows levels pair.1 x) (p ∷ ps)) [
    | inl here ↦ omega (arith, each p.1 p.0 (first_key ps hi) here)
    | inr there ↦ omega (arith, met_in_fan levels x each ps hi there)
  ]

  -- what keys meet in a tree the tree reaches
  pub IsMet-reached : (levels oid lo hi x : ℕ) → IsMet r rows low high levels oid lo hi x → 0 < times rows levels oid x
  IsMet-reached zero oid lo hi x met = omega (arith, same_oid-itself oid x met.1)
  IsMet-reached (suc levels) oid lo hi x met = elim met.2 as (λ _. 0 < times rows (suc levels) oid x) [
    | inl same ↦ omega (arith, same_oid-itself oid x same)
    | inr inside ↦ omega (arith, met_in_fan levels x (λ c f t is. IsMet-reached levels c f t x is) (pairs_of (rows oid)) hi inside)
  ]

-- an object's row is a node's
abbrev HasNode : Rows → ℕ → Type 0
HasNode rows x = (shape : Shape) × (node_of (rows x) ≡ Some shape)

module _ (rows : Rows) (low high : ℕ) where
  node_in_fan : (levels x : ℕ) → ((oid lo hi : ℕ) → IsTree rows levels 4 oid lo hi → IsMet false rows low high levels oid lo hi x → HasNode rows x) → (ps : List (ℕ × ℕ)) (hi : ℕ)
      → Fan (λ child from to. IsTree rows levels 4 child from to) ps hi → AnyOfFan (λ child from to. IsMet false rows low high levels child from to x) ps hi → HasNode rows x
  node_in_fan levels x each [] hi fan any = absurd any
  node_in_fan levels x each (p ∷ ps) hi fan any = elim any as (λ _. HasNode rows x) [
    | inl here ↦ each p.1 p.0 (first_key ps hi) fan.0 here
    | inr there ↦ node_in_fan levels x each ps hi fan.2 there
  ]

  -- what keys meet in a tree, where records don't count, is a node
  IsMet-node : (levels least oid lo hi x : ℕ) → IsTree rows levels least oid lo hi → IsMet false rows low high levels oid lo hi x → HasNode rows x
  IsMet-node zero least oid lo hi x tree met = absurd (false≢true met.0)
  IsMet-node (suc levels) least oid lo hi x tree met = elim met.2 as (λ _. HasNode rows x) [
    | inl same ↦ (record { leaf = levels == 0; pairs = pairs_of (rows oid) }, ap (λ (o : ℕ). node_of (rows o)) same ∙ tree.node)
    | inr inside ↦ node_in_fan levels x (λ c f t is so. IsMet-node levels 4 c f t x is so) (pairs_of (rows oid)) hi tree.fan inside
  ]

module _ (P : ℕ → Type 0) where
  Each-append : (es fs : List (ℕ × ℕ)) → Each (λ (e : ℕ × ℕ). P e.1) es → Each (λ (e : ℕ × ℕ). P e.1) fs → Each (λ (e : ℕ × ℕ). P e.1) (es ++ fs)
  Each-append [] fs a b = b
  Each-append (e ∷ es) fs a b = (a.0, Each-append es fs a.1 b)

  Each-found : (key x : ℕ) (es : List (ℕ × ℕ)) → Each (λ (e : ℕ × ℕ). P e.1) es → lookup (nat_eq key) es ≡ Some x → P x
  Each-found key x [] each is = absurd (cc)
  Each-found key x (e ∷ es) each is =
      elim (nat_eq key e.0) as (λ b. cond b (Some e.1) (lookup (nat_eq key) es) ≡ Some x → P x) [
        | true ↦ λ here. let same : e.1 ≡ x = cc in subst P same each.0
        | false ↦ λ there. Each-found key x es each.1 there
      ] is

module _ (rows : Rows) where
  records_of_fan : (levels : ℕ) → ((oid lo hi : ℕ) → IsTree rows levels 4 oid lo hi → Each (λ (e : ℕ × ℕ). IsRecord (rows e.1)) (entries rows levels oid lo)) → (ps : List (ℕ × ℕ)) (hi : ℕ)
      → Fan (λ child from to. IsTree rows levels 4 child from to) ps hi → Each (λ (e : ℕ × ℕ). IsRecord (rows e.1)) (flat_map (λ pair. entries rows levels pair.1 pair.0) ps)
  records_of_fan levels each [] hi fan = tt
  records_of_fan levels each (p ∷ ps) hi fan =
      Each-append (λ (o : ℕ). IsRecord (rows o)) (entries rows levels p.1 p.0) (flat_map (λ pair. entries rows levels pair.1 pair.0) ps)
      (each p.1 p.0 (first_key ps hi) fan.0) (records_of_fan levels each ps hi fan.2)

  -- the entries of a tree are records
  records_of : (levels least oid lo hi : ℕ) → IsTree rows levels least oid lo hi → Each (λ (e : ℕ × ℕ). IsRecord (rows e.1)) (entries rows levels oid lo)
  records_of zero least oid lo hi tree = (tree, tt)
  records_of (suc levels) least oid lo hi tree = records_of_fan levels (λ c f t is. records_of levels 4 c f t is) (pairs_of (rows oid)) hi tree.fan

-- the root of another table isn't on the way
pub other_roots_off : OtherRootsAreOffWay
other_roots_off rows table other key sound below other_below apart on =
    let reached = IsMet-reached rows false key key (levels_of rows table) table 0 (2 ^ 64) other on in
    let none = one_table rows table other other sound below other_below apart reached in
    let (n, many, few) = levels_of-bounds rows other in
    omega (arith, none, ap (λ (m : ℕ). times rows m other other) many, same_oid-itself other other refl)

-- nor is a record
pub records_off : ((row : List ℕ) → IsRecord row → node_of row ≡ None) → RecordsAreOffWay
records_off no_node rows table key other other_key oid sound below other_below is on =
    let (shape, node) = IsMet-node rows key key (levels_of rows table) 0 table 0 (2 ^ 64) oid (sound.trees table below) on in
    let row : IsRecord (rows oid) =
    Each-found (λ (o : ℕ). IsRecord (rows o)) other_key oid (entries rows (levels_of rows other) other 0) (records_of rows (levels_of rows other) 0 other 0 (2 ^ 64) (sound.trees other other_below)) is in
    let none = no_node (rows oid) row in
    cc
