use Rattle.erm_client_invariant.proofs.Whole.{serial_with}
use Rattle.erm_client_invariant.proofs.laws.clients_are_serial_with_snapshots.Goals as goal

pub returns : goal.returns
returns c = serial_with c.runs_at_once_are_serial_with_snapshots.ensures
