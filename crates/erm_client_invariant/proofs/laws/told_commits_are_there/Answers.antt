use Rattle.erm_client_invariant.proofs.There.{told_are_there}
use Rattle.erm_client_invariant.proofs.laws.told_commits_are_there.Goals as goal

pub returns : goal.returns
returns c = told_are_there
