use Rattle.erm_client_invariant.proofs.Among.{stand_among}
use Rattle.erm_client_invariant.proofs.laws.snapshots_stand_among_commits.Goals as goal

pub returns : goal.returns
returns c = stand_among c.runs_at_once_have_safe_snapshots.ensures c.runs_at_once_have_causes.ensures
