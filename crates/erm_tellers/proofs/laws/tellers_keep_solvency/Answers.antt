use Rattle.erm_tellers.proofs.laws.tellers_keep_solvency.Goals as goal
use Rattle.erm_tellers.proofs.Transfers.{keep_solvency}

pub returns : goal.returns
returns c = keep_solvency c.transactions_keep_solvency.ensures
