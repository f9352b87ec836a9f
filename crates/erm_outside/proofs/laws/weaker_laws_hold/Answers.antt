use Rattle.erm_outside.proofs.Moments.{weaker_moments}
use Rattle.erm_outside.proofs.laws.weaker_laws_hold.Goals as goal

pub returns : goal.returns
returns g c = λ strong weak. weaker_moments (g.L.ImageLaw.meets strong) (g.M.ImageLaw.meets weak)
