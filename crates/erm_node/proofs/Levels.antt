-- How many levels a tree has, found by its first children.
use Rattle.std.proofs.Common.{◌≡◌, ℕ, zero, suc, ◌+◌, ◌-◌, ◌≤◌, ◌<◌, List, [], ◌∷◌, Bool, true, false, length, get_or, Option, Some, None, refl, ap, ◌∙◌, arith}
use Rattle.std.specs.Prelude.{option_and_then}
use Rattle.std.specs.Option.{option_map_or}
use Rattle.erm_model.specs.Rows.{Rows}
use Rattle.erm_node.specs.Node.{Shape, child_of, first_child, node_of, node_row}
use Rattle.erm_node.specs.Sound.{inner_levels, levels_of}

-- a row without words is no node
pub node_of-nil : node_of [] ≡ None
unfolding node_of node_row
node_of-nil = refl

-- where no node stands, there is no child
pub first_child-no_node : (row : List ℕ) → node_of row ≡ None → first_child row ≡ None
unfolding first_child
first_child-no_node row none = ap (option_and_then (λ (shape : Shape). child_of shape.leaf shape.pairs)) none

-- the child of the node that stands there
pub first_child-node : (row : List ℕ) (shape : Shape) → node_of row ≡ Some shape → first_child row ≡ child_of shape.leaf shape.pairs
unfolding first_child
first_child-node row shape is = ap (option_and_then (λ (shape : Shape). child_of shape.leaf shape.pairs)) is

-- the levels are those from the root
pub levels_of-root : (rows : Rows) (oid : ℕ) → levels_of rows oid ≡ 1 + inner_levels rows 11 oid
unfolding levels_of
levels_of-root rows oid = omega arith

pub inner_at : (rows : Rows) (left at : ℕ) (found : Option ℕ) → first_child (rows at) ≡ found → inner_levels rows (suc left) at ≡ option_map_or (λ child. suc (inner_levels rows left child)) found 0
inner_at rows left at found is = ap (λ (o : Option ℕ). option_map_or (λ child. suc (inner_levels rows left child)) o 0) is

-- no more inner levels are counted than there may be
pub inner_levels-limit : (rows : Rows) (limit oid : ℕ) → inner_levels rows limit oid ≤ limit
inner_levels-limit rows zero oid = omega arith
inner_levels-limit rows (suc limit) oid =
    elim (first_child (rows oid)) as (λ child. option_map_or (λ c. suc (inner_levels rows limit c)) child 0 ≤ suc limit) [
      | None ↦ omega arith
      | Some c ↦ omega (arith, inner_levels-limit rows limit c)
    ]

-- one level down
pub levels_of-down : (rows : Rows) (oid level at child : ℕ) → level < 12 → first_child (rows at) ≡ Some child → levels_of rows oid ≡ level + inner_levels rows (12 - level) at → levels_of rows oid ≡ (level + 1) + inner_levels rows (12 - (level + 1)) child
levels_of-down rows oid level at child more is so_far =
    let left : 12 - level ≡ suc (12 - (level + 1)) = omega arith in
    so_far ∙ ap (λ (n : ℕ). level + inner_levels rows n at) left
    ∙ ap (λ (n : ℕ). level + n) (inner_at rows (12 - (level + 1)) at (Some child) is) ∙ omega arith

-- and there the leaves are
pub levels_of-here : (rows : Rows) (oid level at : ℕ) → level < 12 → first_child (rows at) ≡ None → levels_of rows oid ≡ level + inner_levels rows (12 - level) at → levels_of rows oid ≡ level
levels_of-here rows oid level at more is so_far =
    let left : 12 - level ≡ suc (12 - (level + 1)) = omega arith in
    so_far ∙ ap (λ (n : ℕ). level + inner_levels rows n at) left
    ∙ ap (λ (n : ℕ). level + n) (inner_at rows (12 - (level + 1)) at None is) ∙ omega arith

-- as far as it goes
pub levels_of-end : (rows : Rows) (oid at level : ℕ) → 12 ≤ level → level ≤ 12 → levels_of rows oid ≡ level + inner_levels rows (12 - level) at → levels_of rows oid ≡ 12
levels_of-end rows oid at level low high so_far =
    so_far ∙ ap (λ (n : ℕ). level + inner_levels rows n at) (let e : 12 - level ≡ 0 = omega arith in e) ∙ omega arith

-- a leaf has no child
pub child_of-leaf : (pairs : List (ℕ × ℕ)) → child_of true pairs ≡ None
child_of-leaf [] = refl
child_of-leaf (pair ∷ pairs) = refl

-- a node without pairs has none
pub child_of-empty : (leaf : Bool) (pairs : List (ℕ × ℕ)) → length pairs ≡ 0 → child_of leaf pairs ≡ None
child_of-empty leaf [] empty = refl
child_of-empty leaf (pair ∷ pairs) empty = absurd (omega (arith, empty))

-- the first child of an inner node with pairs
pub child_of-inner : (pairs : List (ℕ × ℕ)) → 0 < length pairs → child_of false pairs ≡ Some (get_or pairs 0 (0, 0)).1
child_of-inner [] some = absurd (omega (arith, some))
child_of-inner (pair ∷ pairs) some = refl
