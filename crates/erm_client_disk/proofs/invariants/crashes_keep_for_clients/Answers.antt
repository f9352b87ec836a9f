use Rattle.erm_client_disk.proofs.Keeps.{crashes_keep}
use Rattle.erm_client_disk.proofs.invariants.crashes_keep_for_clients.Goals as goal

pub returns : goal.returns
returns g c invariant = crashes_keep (g.I.Invariant.holds invariant) (c.invariants_hold_below.ensures.states invariant)
