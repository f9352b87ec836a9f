use Rattle.std.proofs.Common.{◌≡◌}
use Rattle.erm_plain_cases.proofs.steps.are_answered.Given as goal

abbrev pub invariant-loop-place : goal.invariant-loop-place
invariant-loop-place g l = g.W.RowWorld.stands l.world × ((g.W.RowWorld.view l.world).opening.sessions ≡ 3)
