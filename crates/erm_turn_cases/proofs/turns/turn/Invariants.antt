use Rattle.erm_turn_cases.proofs.turns.turn.Given as goal

abbrev pub ghosts-turn_beside : goal.ghosts-turn_beside
ghosts-turn_beside g a = record { standing = λ seat. ((g.W.RowWorld.view a.world).session seat, (g.W.RowWorld.view a.world).given_up seat, (g.W.RowWorld.view a.world).saves seat) }
