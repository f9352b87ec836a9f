use Rattle.erm_bank.proofs.Shown.{ends_solvent}
use Rattle.erm_bank.proofs.laws.ends_leave_solvent_customers.Goals as goal

pub returns : goal.returns
returns c = ends_solvent (c.ends_keep_for_clients.ensures (record {})) c.tellers_keep_solvency.ensures
