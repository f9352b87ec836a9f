use Rattle.std.proofs.Common.{◌≡◌, ◌+◌, ◌-◌}
use Rattle.erm_model.specs.Rows.{rows_of}
use Rattle.erm_node.specs.Sound.{inner_levels, levels_of}
use Rattle.erm_node.proofs.soundness.levels.Given as goal

-- as many levels as were gone down, and those from there
abbrev pub invariant-loop-level : goal.invariant-loop-level
invariant-loop-level l = levels_of (rows_of l.rows) l.oid ≡ l.level + inner_levels (rows_of l.rows) (12 - l.level) l.at
