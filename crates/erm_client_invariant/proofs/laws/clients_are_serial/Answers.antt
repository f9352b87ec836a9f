use Rattle.erm_client_invariant.proofs.Whole.{serial}
use Rattle.erm_client_invariant.proofs.laws.clients_are_serial.Goals as goal

pub returns : goal.returns
returns c = serial c.runs_at_once_are_serial.ensures
