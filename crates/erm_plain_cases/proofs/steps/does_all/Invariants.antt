use Rattle.std.proofs.Common.{◌≡◌}
use Rattle.erm_plain_cases.proofs.steps.does_all.Given as goal

abbrev pub invariant-loop-step : goal.invariant-loop-step
invariant-loop-step g l = g.W.RowWorld.stands l.world × ((g.W.RowWorld.view l.world).opening.sessions ≡ 3)
