use Rattle.erm_tellers.proofs.laws.transactions_move_totals.Goals as goal
use Rattle.erm_tellers.proofs.Balance.{transactions_move}

pub returns : goal.returns
returns c = transactions_move c.deposits_raise_totals.ensures c.withdrawals_lower_totals.ensures c.audits_leave_totals.ensures
