use Rattle.erm_precommit.proofs.Skews.{closed_beside}
use Rattle.erm_precommit.proofs.laws.ready_beside_a_commit_is_closed.Goals as goal

pub returns : goal.returns
returns c core p q t sound other m commit skew passed = closed_beside core sound p q t other m commit skew passed
