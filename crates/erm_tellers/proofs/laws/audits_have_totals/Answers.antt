use Rattle.erm_tellers.proofs.laws.audits_have_totals.Goals as goal
use Rattle.erm_tellers.proofs.Placed.{totals_there}

pub returns : goal.returns
returns c = totals_there c.found_totals_are_totals.ensures c.solvent_customers_hold.ensures c.tellers_keep_solvency.ensures c.tellers_keep_accounts_readable.ensures
    (c.snapshots_see_invariants_for_clients.ensures (record {}))
