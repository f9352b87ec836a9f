use Rattle.erm_worker_cases.proofs.alone.close.Given as goal

abbrev pub ghosts-close_beside : goal.ghosts-close_beside
ghosts-close_beside g a = record { standing = λ seat. ((g.W.RowWorld.view a.world).session seat, (g.W.RowWorld.view a.world).given_up seat, (g.W.RowWorld.view a.world).saves seat) }
