use Rattle.erm_client_invariant.proofs.Whole.{of_kind}
use Rattle.erm_client_invariant.proofs.laws.commits_are_of_kind.Goals as goal

pub returns : goal.returns
returns g c kind = of_kind (g.K.Kind.has kind) c.runs_at_once_close_sessions.ensures
