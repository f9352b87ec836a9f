use Rattle.std.proofs.Common.{◌≡◌, ◌≤◌, length}
use Rattle.std.specs.Prelude.{vec_capacity}
use Rattle.erm_model.specs.declared.limits.TheConstants.{SAVES}
use Rattle.erm_savepoints.proofs.saves.Saves.new.Given as goal

abbrev pub invariant-loop : goal.invariant-loop
invariant-loop l = (length l.points.items ≡ l.counter) × (SAVES ≤ vec_capacity l.points)
