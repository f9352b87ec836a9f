use Rattle.erm_follow.proofs.Told.{begins, goes_on}
use Rattle.erm_follow.proofs.laws.takes_go_on.Goals as goal

pub returns-clause-first : goal.returns-clause-first
returns-clause-first c = begins

pub returns-clause-next : goal.returns-clause-next
returns-clause-next c = goes_on
