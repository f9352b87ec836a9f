use Rattle.erm_lists.proofs.Restoring.{IsRestored}
use Rattle.erm_lists.proofs.lists.Lists.restore.Given as goal

abbrev pub invariant-loop-place : goal.invariant-loop-place
invariant-loop-place g l = IsRestored g.L.RowLaw.law l.fn.self l.self l.seat l.place l.saved
