use Rattle.erm_client_invariant.proofs.Whole.{clients_keep}
use Rattle.erm_client_invariant.proofs.laws.clients_keep_invariants.Goals as goal

pub returns : goal.returns
returns g c invariant = clients_keep (g.I.Invariant.holds invariant) c.runs_at_once_close_sessions.ensures (c.commits_keep_invariants.ensures invariant)
