use Rattle.erm_worker_cases.proofs.alone.work.Given as goal

abbrev pub ghosts-work_beside : goal.ghosts-work_beside
ghosts-work_beside g a = record { standing = λ seat. ((g.W.RowWorld.view a.world).session seat, (g.W.RowWorld.view a.world).given_up seat, (g.W.RowWorld.view a.world).saves seat) }
