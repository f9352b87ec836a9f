use Rattle.std.proofs.Common.{◌≡◌}
use Rattle.erm_world_cases.specs.Sessions.{AllRun}
use Rattle.erm_world_cases.proofs.tests.first_other.Given as goal

abbrev pub invariant-loop-place : goal.invariant-loop-place
invariant-loop-place g l = g.W.RowWorld.stands l.world × AllRun (g.W.RowWorld.view l.world) × ((g.W.RowWorld.view l.world).opening.sessions ≡ 2)
