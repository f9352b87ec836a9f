use Rattle.erm_rule.proofs.stepping.step.Given as goal

abbrev pub ghosts-step_by : goal.ghosts-step_by
ghosts-step_by g a = record { seat = a.who; kind = a._kind }
