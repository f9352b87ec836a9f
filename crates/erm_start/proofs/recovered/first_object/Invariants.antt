use Rattle.std.proofs.Common.{◌≤◌}
use Rattle.erm_model.specs.declared.limits.TheConstants.{TABLES}
use Rattle.erm_model.specs.Rows.{rows_of}
use Rattle.erm_start.specs.Recovered.{IsFirstBelow}
use Rattle.erm_start.proofs.recovered.first_object.Given as goal

abbrev pub invariant-loop-oid : goal.invariant-loop-oid
invariant-loop-oid l = (TABLES ≤ l.oid) × IsFirstBelow (rows_of l.rows) l.oid l.first
