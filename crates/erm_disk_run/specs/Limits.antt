-- The limits of the worlds over which scripts are run on a disk.
use Rattle.std.specs.Prelude.{◌≤◌, ℕ}
use Rattle.erm_model.specs.declared.limits.TheConstants.{MOST_CELLS, TABLE_CELLS}

-- how many cells a world has, and how many versions one call cuts off at most
pub record Limits : Type 0 where
  pub cells : ℕ
  pub cuts : ℕ

-- those of the world over the word table, and of the world in lists
abbrev pub in_table : Limits
in_table = record { cells = TABLE_CELLS; cuts = TABLE_CELLS }

abbrev pub in_lists : Limits
in_lists = record { cells = MOST_CELLS; cuts = 0 }

-- there are no fewer cells than the table has, and no more than cells may have numbers
pub record AreLimits (limits : Limits) : Type 0 where
  pub least : TABLE_CELLS ≤ limits.cells
  pub most : limits.cells ≤ MOST_CELLS
