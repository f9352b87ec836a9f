use Rattle.erm_invariant.proofs.Reading.{readers_keep}
use Rattle.erm_invariant.proofs.laws.readers_keep_invariants.Goals as goal

pub returns : goal.returns
returns g c invariant = readers_keep (g.I.Invariant.holds invariant)
