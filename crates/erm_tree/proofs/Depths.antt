-- How deep trees are: by their first children, and by how many objects there may be.
use Rattle.std.proofs.Common.{◌≡◌, ℕ, zero, suc, ◌+◌, ◌<◌, ◌≤◌, List, [], ◌∷◌, length, Bool, true, false, Option, Some, None, refl, ap, ◌∙◌, subst, inl, inr, arith}
use Rattle.std.specs.Prelude.{◌==◌, option_and_then}
use Rattle.std.specs.Option.{option_map_or}
use Rattle.std.proofs.lemmas.Bool.{cases_lt}
use Rattle.std.proofs.lemmas.Bool.Decides.{nat_tests}
use Rattle.erm_model.specs.declared.limits.TheConstants.{OID_LIMIT}
use Rattle.erm_model.specs.Rows.{Rows}
use Rattle.erm_node.specs.Node.{Shape, node_of, node_row, pairs_of, is_node, fewest_pairs, child_of, first_child}
use Rattle.erm_node.specs.Sound.{levels_of, inner_levels}
use Rattle.erm_node.specs.Tree.{Fan, first_key, total, same_oid, IsTree, times}
use Rattle.erm_tree.proofs.Nodes.{is_node-parts}

same_oid-itself : (oid : ℕ) → same_oid oid oid ≡ 1
same_oid-itself oid = grind (arith, nat_tests)

suc_isnt_zero : (n : ℕ) → (suc n == 0) ≡ false
suc_isnt_zero n = grind (arith, nat_tests)

first_child-found : (row : List ℕ) (shape : Shape) → node_of row ≡ Some shape → first_child row ≡ child_of shape.leaf shape.pairs
unfolding first_child
first_child-found row shape found = ap (option_and_then (λ s. child_of s.leaf s.pairs)) found

child_of-leaf : (ps : List (ℕ × ℕ)) → child_of true ps ≡ None
child_of-leaf [] = refl
child_of-leaf (p ∷ ps) = refl

-- the first of some pairs
first_of : (ps : List (ℕ × ℕ)) → 2 ≤ length ps → (p : ℕ × ℕ) × (qs : List (ℕ × ℕ)) × (ps ≡ p ∷ qs)
first_of [] some = absurd (omega arith)
first_of (p ∷ ps) some = (p, ps, refl)

module _ (found : (row : List ℕ) (shape : Shape) → node_of row ≡ Some shape → (is_node shape ≡ true) × (row ≡ node_row shape)) (rows : Rows) where
  inner_levels-tree : (n limit least oid lo hi : ℕ) → IsTree rows (suc n) least oid lo hi → n ≤ limit → inner_levels rows limit oid ≡ n
  inner_levels-tree zero zero least oid lo hi tree few = refl
  inner_levels-tree zero (suc limit) least oid lo hi tree few =
      let none : first_child (rows oid) ≡ None = first_child-found (rows oid) (record { leaf = true; pairs = pairs_of (rows oid) }) tree.node ∙ child_of-leaf (pairs_of (rows oid)) in
      ap (λ (c : Option ℕ). option_map_or (λ child. suc (inner_levels rows limit child)) c 0) none
  inner_levels-tree (suc n) zero least oid lo hi tree few = absurd (omega arith)
  inner_levels-tree (suc n) (suc limit) least oid lo hi tree few =
      let ps = pairs_of (rows oid) in
      let shape : Shape = record { leaf = suc n == 0; pairs = ps } in
      let two : 2 ≤ length ps = subst (λ (leaf : Bool). fewest_pairs leaf ≤ length ps) (suc_isnt_zero n) (is_node-parts shape (found (rows oid) shape tree.node).0).0 in
      let (p, qs, is) = first_of ps two in
      let fan : Fan (λ c f t. IsTree rows (suc n) 4 c f t) (p ∷ qs) hi = subst (λ (rs : List (ℕ × ℕ)). Fan (λ c f t. IsTree rows (suc n) 4 c f t) rs hi) is tree.fan in
      let first : first_child (rows oid) ≡ Some p.1 =
      first_child-found (rows oid) shape tree.node ∙ ap (λ (leaf : Bool). child_of leaf ps) (suc_isnt_zero n) ∙ ap (child_of false) is in
      ap (λ (c : Option ℕ). option_map_or (λ child. suc (inner_levels rows limit child)) c 0) first
      ∙ ap suc (inner_levels-tree n limit 4 p.1 p.0 (first_key qs hi) fan.0 (omega arith))

  -- a tree has the levels that its first children show
  pub levels_of-tree : (n least oid lo hi : ℕ) → IsTree rows (suc n) least oid lo hi → n ≤ 11 → levels_of rows oid ≡ suc n
  unfolding levels_of
  levels_of-tree n least oid lo hi tree few = ap suc (inner_levels-tree n 11 least oid lo hi tree few)

-- a sum over the numbers below one
abbrev sum_below : ℕ → (ℕ → ℕ) → ℕ
sum_below zero f = 0
sum_below (suc n) f = sum_below n f + f n

sum_below-plus : (n : ℕ) (f g : ℕ → ℕ) → sum_below n (λ x. f x + g x) ≡ sum_below n f + sum_below n g
sum_below-plus zero f g = refl
sum_below-plus (suc n) f g = omega (arith, sum_below-plus n f g)

sum_below-zero : (n : ℕ) → sum_below n (λ x. 0) ≡ 0
sum_below-zero zero = refl
sum_below-zero (suc n) = omega (arith, sum_below-zero n)

sum_below-total : (n : ℕ) (f : ℕ × ℕ → ℕ → ℕ) (ps : List (ℕ × ℕ)) → sum_below n (λ x. total (λ p. f p x) ps) ≡ total (λ p. sum_below n (f p)) ps
sum_below-total n f [] = sum_below-zero n
sum_below-total n f (p ∷ ps) = omega (arith, sum_below-plus n (f p) (λ x. total (λ q. f q x) ps), sum_below-total n f ps)

sum_below-one : (n oid : ℕ) → oid < n → 1 ≤ sum_below n (same_oid oid)
sum_below-one zero oid inside = absurd (omega arith)
sum_below-one (suc n) oid inside =
    elim (cases_lt oid n) as (λ _. 1 ≤ sum_below (suc n) (same_oid oid)) [
      | inl less ↦ omega (arith, sum_below-one n oid less)
      | inr last ↦ let same : oid ≡ n = omega arith in omega (arith, ap (same_oid oid) same, same_oid-itself oid)
    ]

sum_below-few : (n : ℕ) (f : ℕ → ℕ) → ((x : ℕ) → f x ≤ 1) → sum_below n f ≤ n
sum_below-few zero f few = omega arith
sum_below-few (suc n) f few = omega (arith, few n, sum_below-few n f few)

-- four times four ..
abbrev pub quads : ℕ → ℕ
quads zero = 1
quads (suc n) = quads n + quads n + quads n + quads n

-- f of each element is at least this
abbrev AtLeast : (ℕ × ℕ → ℕ) → ℕ → List (ℕ × ℕ) → Type 0
AtLeast f least [] = Unit {0}
AtLeast f least (p ∷ ps) = (least ≤ f p) × AtLeast f least ps

four_of : (f : ℕ × ℕ → ℕ) (least : ℕ) (ps : List (ℕ × ℕ)) → 4 ≤ length ps → AtLeast f least ps → least + least + least + least ≤ total f ps
four_of f least [] many each = absurd (omega arith)
four_of f least (a ∷ []) many each = absurd (omega arith)
four_of f least (a ∷ b ∷ []) many each = absurd (omega arith)
four_of f least (a ∷ b ∷ c ∷ []) many each = absurd (omega arith)
four_of f least (a ∷ b ∷ c ∷ d ∷ ps) many each = omega (arith, each.0, each.1.0, each.1.1.0, each.1.1.1.0)

module _ (rows : Rows) (limit : ℕ) where
  AtLeast-Fan : (levels : ℕ) → ((oid lo hi : ℕ) → IsTree rows levels 4 oid lo hi → ((x : ℕ) → limit ≤ x → times rows levels oid x ≡ 0) → quads levels ≤ sum_below limit (times rows levels oid)) → (ps : List (ℕ × ℕ)) (hi : ℕ)
      → Fan (λ c f t. IsTree rows levels 4 c f t) ps hi → ((x : ℕ) → limit ≤ x → total (λ p. times rows levels p.1 x) ps ≡ 0) → AtLeast (λ p. sum_below limit (times rows levels p.1)) (quads levels) ps
  AtLeast-Fan levels each [] hi fan few = tt
  AtLeast-Fan levels each (p ∷ ps) hi fan few = (
    each p.1 p.0 (first_key ps hi) fan.0 (λ x above. omega (arith, few x above)),
    AtLeast-Fan levels each ps hi fan.2 (λ x above. omega (arith, few x above)),
  )

  -- a tree reaches four times four objects, for each level
  quads-tree : (levels oid lo hi : ℕ) → IsTree rows levels 4 oid lo hi → ((x : ℕ) → limit ≤ x → times rows levels oid x ≡ 0) → quads levels ≤ sum_below limit (times rows levels oid)
  quads-tree zero oid lo hi tree few =
      elim (cases_lt oid limit) as (λ _. 1 ≤ sum_below limit (same_oid oid)) [
        | inl inside ↦ sum_below-one limit oid inside
        | inr outside ↦ absurd (omega (arith, few oid outside, same_oid-itself oid))
      ]
  quads-tree (suc levels) oid lo hi tree few =
      let ps = pairs_of (rows oid) in
      let each = AtLeast-Fan levels (λ c f t is so. quads-tree levels c f t is so) ps hi tree.fan (λ x above. omega (arith, few x above)) in
      let four = four_of (λ p. sum_below limit (times rows levels p.1)) (quads levels) ps tree.enough each in
      omega (
        arith,
        four,
        sum_below-plus limit (same_oid oid) (λ x. total (λ p. times rows levels p.1 x) ps),
        sum_below-total limit (λ p. times rows levels p.1) ps,
      )

  -- so many objects there must be
  pub quads-limit : (levels oid lo hi : ℕ) → IsTree rows levels 4 oid lo hi → ((x : ℕ) → times rows levels oid x ≤ 1) → ((x : ℕ) → limit ≤ x → times rows levels oid x ≡ 0) → quads levels ≤ limit
  quads-limit levels oid lo hi tree once few = omega (arith, quads-tree levels oid lo hi tree few, sum_below-few limit (times rows levels oid) once)

-- twelve levels of four are more than there are objects
pub quads-twelve : quads 12 ≤ OID_LIMIT → ⊥
quads-twelve few = omega arith
