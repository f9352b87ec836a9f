use Rattle.erm_cells.specs.Hands.{cell_word_of, stamp_kind}
use Rattle.erm_rule.specs.Views.{part_of}
use Rattle.erm_cells.proofs.settles.load_stamp.Given as goal

abbrev pub ghosts-step_as : goal.ghosts-step_as
ghosts-step_as g a = record { seat = a.who; kind = stamp_kind (part_of a.p.now.me.0.view a.who) (cell_word_of a.word) }
