use Rattle.erm_tellers.proofs.laws.audits_show_what_is_kept.Goals as goal
use Rattle.erm_tellers.proofs.Placed.{kept_shows}

pub returns : goal.returns
returns c = kept_shows c.found_totals_are_totals.ensures c.transactions_move_totals.ensures
    (λ low high n. c.snapshots_see_invariants_for_clients.ensures (record { low = low; high = high; total = n }))
