use Rattle.std.proofs.Common.{refl}
use Rattle.erm_make.specs.Draws.{draw, state_after}
use Rattle.erm_make.proofs.laws.first_draws_are_known.Goals as goal

pub returns-clause-first : goal.returns-clause-first
unfolding draw state_after
returns-clause-first c = refl

pub returns-clause-second : goal.returns-clause-second
unfolding draw state_after
returns-clause-second c = refl
