use Rattle.erm_cells.specs.Hands.{amount, raise_kind}
use Rattle.erm_rule.specs.Views.{part_of}
use Rattle.erm_cells.proofs.walks.raise_reader.Given as goal

abbrev pub ghosts-step_as : goal.ghosts-step_as
ghosts-step_as g a = record { seat = a.who; kind = raise_kind (part_of a.p.now.me.0.view a.who) (amount a.change) }
