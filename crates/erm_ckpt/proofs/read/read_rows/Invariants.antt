use Rattle.erm_ckpt.proofs.ReadRows.{IsReadSoFar}
use Rattle.erm_ckpt.proofs.read.read_rows.Given as goal

-- so many rows were read
abbrev pub invariant-loop-row : goal.invariant-loop-row
invariant-loop-row l = IsReadSoFar l.form l.words l.rows l._row l.at l.least
