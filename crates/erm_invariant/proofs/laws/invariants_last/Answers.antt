use Rattle.erm_invariant.proofs.Throughout.{invariants_last}
use Rattle.erm_invariant.proofs.laws.invariants_last.Goals as goal

pub returns : goal.returns
returns g c invariant = invariants_last (g.I.Invariant.holds invariant)
