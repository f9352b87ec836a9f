use Rattle.erm_bank.proofs.Shown.{crashes_solvent}
use Rattle.erm_bank.proofs.laws.crashes_leave_solvent_customers.Goals as goal

pub returns : goal.returns
returns c = crashes_solvent (c.crashes_keep_for_clients.ensures (record {})) c.tellers_keep_solvency.ensures
