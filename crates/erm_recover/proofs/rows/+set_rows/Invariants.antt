use Rattle.std.proofs.Common.{length}
use Rattle.erm_recover.proofs.rows.+set_rows.Given as goal

abbrev pub decreases-set_rows : goal.decreases-set_rows
decreases-set_rows g l = length l.entries.now
