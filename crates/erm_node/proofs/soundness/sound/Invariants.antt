use Rattle.erm_model.specs.Rows.{rows_of}
use Rattle.erm_node.proofs.Reached.{AreTables}
use Rattle.erm_node.proofs.soundness.sound.Given as goal

-- the tables so far have trees that reach just what is marked
abbrev pub invariant-loop-table : goal.invariant-loop-table
invariant-loop-table l = AreTables (rows_of l.rows) l.reached l.table
