-- Sound rows: sixteen trees, one for each table, at the objects of the tables' numbers.
use Rattle.std.specs.Prelude.{◌≡◌, ℕ, zero, suc, ◌+◌, ◌-◌, ◌^◌, ◌<◌, ◌≤◌}
use Rattle.std.specs.Option.{option_map_or}
use Rattle.erm_model.specs.declared.limits.TheConstants.{OID_LIMIT, TABLES}
use Rattle.erm_model.specs.Rows.{Rows}
use Rattle.erm_model.specs.RowTransaction.{Law}
use Rattle.erm_node.specs.declared.node.TheConstants.{LEVELS}
use Rattle.erm_node.specs.Node.{first_child}
use Rattle.erm_node.specs.Tree.{IsTree, times}

-- how many inner nodes lie one below the other, by their first children, from an object down, as far as this number
abbrev pub inner_levels : Rows → ℕ → ℕ → ℕ
inner_levels rows zero oid = 0
inner_levels rows (suc limit) oid = option_map_or (λ child. suc (inner_levels rows limit child)) (first_child (rows oid)) 0

-- the levels of nodes of the tree at an object: the inner ones, and the leaves
unfoldable pub levels_of : Rows → ℕ → ℕ
levels_of rows oid = suc (inner_levels rows (LEVELS - 1) oid)

-- how often the trees of the tables below a number reach an object
abbrev pub reached_below : Rows → ℕ → ℕ → ℕ
reached_below rows zero x = 0
reached_below rows (suc table) x = reached_below rows table x + times rows (levels_of rows table) table x

-- how often the trees of all tables reach an object
unfoldable pub reached : Rows → ℕ → ℕ
reached rows x = reached_below rows TABLES x

-- rows are sound
pub record IsSound (rows : Rows) : Type 0 where
  -- each table has a tree, whose keys are all those that there may be
  pub trees : (table : ℕ) → table < TABLES → IsTree rows (levels_of rows table) 0 table 0 (2 ^ 64)
  -- no object is reached twice, over all tables
  pub once : (x : ℕ) → reached rows x ≤ 1
  -- each object reached is one that there may be
  pub bounded : (x : ℕ) → OID_LIMIT ≤ x → reached rows x ≡ 0

-- the law of sound rows
abbrev pub sound_law : Law
sound_law = record { meets = IsSound; reach = reached }
