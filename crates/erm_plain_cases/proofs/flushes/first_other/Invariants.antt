use Rattle.std.proofs.Common.{◌≡◌}
use Rattle.erm_model.specs.RowTransaction.{any_law}
use Rattle.erm_plain.specs.Stands.{IsWorld, plain_view}
use Rattle.erm_plain_cases.proofs.flushes.first_other.Given as goal

abbrev pub invariant-loop-place : goal.invariant-loop-place
invariant-loop-place l = IsWorld any_law l.world × ((plain_view l.world).opening.sessions ≡ 3)
