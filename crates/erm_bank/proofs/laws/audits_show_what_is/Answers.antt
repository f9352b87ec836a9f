use Rattle.erm_bank.proofs.Shown.{show_what_is}
use Rattle.erm_bank.proofs.laws.audits_show_what_is.Goals as goal

pub returns : goal.returns
returns c = show_what_is c.transactions_move_totals.ensures (λ low high n. c.invariants_hold_below.ensures.states (record { low = low; high = high; total = n }))
