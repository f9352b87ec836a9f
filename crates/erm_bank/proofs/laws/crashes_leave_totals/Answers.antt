use Rattle.erm_bank.proofs.Shown.{crashes_totals}
use Rattle.erm_bank.proofs.laws.crashes_leave_totals.Goals as goal

pub returns : goal.returns
returns c = crashes_totals (λ low high n. c.crashes_keep_for_clients.ensures (record { low = low; high = high; total = n })) c.transactions_move_totals.ensures
