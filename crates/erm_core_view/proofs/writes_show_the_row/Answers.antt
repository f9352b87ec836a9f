use Rattle.erm_core_view.proofs.Rows.{writes, writes_rest}
use Rattle.erm_core_view.proofs.Words.{copy_shows, head_shows, undo_shows, word_shows}
use Rattle.erm_core_view.proofs.writes_show_the_row.Goals as goal

pub returns-clause-words : goal.returns-clause-words
returns-clause-words g seat place cell k value c d active writing e = word_shows seat place cell k value c d active writing e

pub returns-clause-copies : goal.returns-clause-copies
returns-clause-copies g seat place cell k value next c d sound active copies e = copy_shows seat place cell k value next c d sound active copies e

pub returns-clause-ends : goal.returns-clause-ends
returns-clause-ends g seat place cell value w c d inactive e = head_shows seat place cell value w c d inactive e

pub returns-clause-writes : goal.returns-clause-writes
returns-clause-writes g sessions seat place cell row c sound may words = writes sessions seat place cell row c sound may words

pub returns-clause-undoes : goal.returns-clause-undoes
returns-clause-undoes g seat place c d e = undo_shows seat place c d e

pub returns-clause-rests : goal.returns-clause-rests
returns-clause-rests g seat place cell row c may words = writes_rest seat place cell row c may words
