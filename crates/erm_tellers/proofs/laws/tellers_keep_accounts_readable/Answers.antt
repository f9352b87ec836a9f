use Rattle.erm_tellers.proofs.laws.tellers_keep_accounts_readable.Goals as goal
use Rattle.erm_tellers.proofs.Transfers.{keep_readable}

pub returns : goal.returns
returns c = keep_readable c.transactions_keep_accounts_readable.ensures
