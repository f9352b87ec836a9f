use Rattle.erm_client_invariant.proofs.There.{snapshots_are_there}
use Rattle.erm_client_invariant.proofs.laws.told_snapshots_are_there.Goals as goal

pub returns : goal.returns
returns c = snapshots_are_there
