use Rattle.erm_world.specs.World.{Work, bare}
use Rattle.erm_world.proofs.Commits.{SameLaw-lawful}
use Rattle.erm_world.proofs.laws.laws_that_say_the_same.Goals as goal

pub returns : goal.returns
returns g c = λ same (w : Work). SameLaw-lawful g.A.RowLaw.law g.B.RowLaw.law same (bare w)
