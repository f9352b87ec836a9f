use Rattle.erm_tellers.proofs.laws.audits_in_transactions_show_totals.Goals as goal
use Rattle.erm_tellers.proofs.Placed.{tracked_show}

pub returns : goal.returns
returns c = tracked_show c.found_totals_are_totals.ensures c.told_commits_are_there.ensures c.clients_are_serial.ensures
