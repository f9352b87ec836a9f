use Rattle.erm_rule.specs.Views.{part_of}
use Rattle.erm_cells.specs.Hands.{amount, cell_word_of}
use Rattle.erm_cells.specs.Placed.{cell_of, own_kind}
use Rattle.erm_cells.proofs.placed.store_placed.Given as goal

abbrev pub ghosts-step_as : goal.ghosts-step_as
ghosts-step_as g a = record { seat = a.who; kind = own_kind (part_of a.p.now.me.0.view a.who) (cell_of a.word) (cell_word_of a.word) (amount a.change) }
