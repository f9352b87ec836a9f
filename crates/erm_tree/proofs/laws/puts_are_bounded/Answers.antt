use Rattle.erm_tree.proofs.Bounds.{AreFew-prefix, AreFew-refused}
use Rattle.erm_tree.proofs.laws.puts_are_bounded.Goals as goal

pub returns-clause-whole : goal.returns-clause-whole
returns-clause-whole g c rows table key row events others put = AreFew-prefix rows table key row events others put

pub returns-clause-refused : goal.returns-clause-refused
returns-clause-refused g c table key row s t stop lawful stopped = AreFew-refused g.T.RowRead.face table key row s t stop lawful stopped
