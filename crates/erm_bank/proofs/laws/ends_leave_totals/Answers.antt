use Rattle.erm_bank.proofs.Shown.{ends_totals}
use Rattle.erm_bank.proofs.laws.ends_leave_totals.Goals as goal

pub returns : goal.returns
returns c = ends_totals (λ low high n. c.ends_keep_for_clients.ensures (record { low = low; high = high; total = n })) c.transactions_move_totals.ensures
