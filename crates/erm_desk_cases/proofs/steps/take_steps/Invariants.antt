use Rattle.erm_model.specs.RowTransaction.{any_law}
use Rattle.erm_shared_session.specs.Stands.{Stands}
use Rattle.erm_desk_cases.proofs.steps.take_steps.Given as goal

abbrev pub invariant-loop-place : goal.invariant-loop-place
invariant-loop-place g l = Stands any_law l.table l.first × Stands any_law l.table l.second
