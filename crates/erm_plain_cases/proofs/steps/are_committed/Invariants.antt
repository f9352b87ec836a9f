use Rattle.std.proofs.Common.{◌≡◌}
use Rattle.erm_plain_cases.proofs.steps.are_committed.Given as goal

abbrev pub invariant-loop-k : goal.invariant-loop-k
invariant-loop-k g l = g.W.RowWorld.stands l.world × ((g.W.RowWorld.view l.world).opening.sessions ≡ 3)
