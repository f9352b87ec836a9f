use Rattle.std.proofs.Common.{[], refl}
use Rattle.erm_outside.proofs.Moments.{at_first, at_last, moments-joined}
use Rattle.erm_outside.proofs.laws.moments_join.Goals as goal

pub returns : goal.returns
returns g c = record {
  joined = λ given. moments-joined (g.L.ImageLaw.meets given);
  one = λ given steps each. ([], refl, each);
  first = λ given. at_first (g.L.ImageLaw.meets given);
  last = λ given. at_last (g.L.ImageLaw.meets given);
}
