use Rattle.std.proofs.Common.{◌≡◌}
use Rattle.erm_plain_cases.proofs.calls.is_answered.Given as goal

abbrev pub invariant-loop-turn : goal.invariant-loop-turn
invariant-loop-turn g l = g.W.RowWorld.stands l.world × ((g.W.RowWorld.view l.world).opening.sessions ≡ 3)
