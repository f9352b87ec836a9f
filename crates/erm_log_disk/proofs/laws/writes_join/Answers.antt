use Rattle.erm_log_disk.proofs.Joins.{writes-joined}
use Rattle.erm_log_disk.proofs.laws.writes_join.Goals as goal

pub returns : goal.returns
returns c = writes-joined
