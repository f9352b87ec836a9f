use Rattle.std.proofs.Common.{◌≡◌, ◌≤◌, take}
use Rattle.std.specs.Prelude.{vec_capacity}
use Rattle.erm_model.specs.declared.limits.TheConstants.{WRITE_LIMIT}
use Rattle.erm_savepoints.specs.Saves.{rows_set}
use Rattle.erm_savepoints.proofs.savepoint.Savepoint.fill.Given as goal

abbrev pub invariant-loop-i : goal.invariant-loop-i
invariant-loop-i l = (l.self-inside.rows.items ≡ rows_set (take l.i l.rows) (take l.i l.is_set)) × (WRITE_LIMIT ≤ vec_capacity l.self-inside.rows)
