use Rattle.erm_client_invariant.proofs.Among.{see}
use Rattle.erm_client_invariant.proofs.laws.snapshots_see_invariants_for_clients.Goals as goal

pub returns : goal.returns
returns g c invariant = see (g.I.Invariant.holds invariant) c.snapshots_stand_among_commits.ensures (c.invariants_last_for_clients.ensures invariant)
