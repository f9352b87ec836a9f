use Rattle.erm_rule.proofs.stepping.pass_by.Given as goal

abbrev pub ghosts-passes : goal.ghosts-passes
ghosts-passes g a = record { seat = a.who; kind = a._kind }
