use Rattle.erm_tellers.proofs.laws.tellers_move_totals.Goals as goal
use Rattle.erm_tellers.proofs.Placed.{tellers_move}

pub returns : goal.returns
returns c = tellers_move c.transactions_move_totals.ensures (c.commits_are_of_kind.ensures _) c.clients_are_serial.ensures
