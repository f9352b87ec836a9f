use Rattle.erm_run_at_once.proofs.Worked.{are_complete}
use Rattle.erm_run_at_once.proofs.ran.sessions_are_complete.Goals as goal

pub returns : goal.returns
returns c = are_complete
