use Rattle.erm_client_invariant.proofs.Whole.{lasts}
use Rattle.erm_client_invariant.proofs.laws.invariants_last_for_clients.Goals as goal

pub returns : goal.returns
returns g c invariant = lasts (g.I.Invariant.holds invariant) (c.clients_keep_invariants.ensures invariant) c.runs_at_once_are_serial.ensures (c.invariants_last_in_order.ensures invariant)
