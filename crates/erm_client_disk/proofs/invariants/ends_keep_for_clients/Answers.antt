use Rattle.erm_client_disk.proofs.Keeps.{ends_keep}
use Rattle.erm_client_disk.proofs.invariants.ends_keep_for_clients.Goals as goal

pub returns : goal.returns
returns g c invariant = ends_keep (g.I.Invariant.holds invariant) (c.invariants_last_in_order.ensures invariant)
