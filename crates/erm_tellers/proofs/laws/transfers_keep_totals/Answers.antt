use Rattle.erm_good_report.specs.Transactions.{steps_of}
use Rattle.erm_tellers.proofs.laws.transfers_keep_totals.Goals as goal
use Rattle.erm_tellers.proofs.Balance.{among_keep}

pub returns : goal.returns
returns c v f all closed opening run is low high n moving begins order in_order =
    c.invariants_last_for_clients.ensures (record { low = low; high = high; total = n }) v f all closed opening run is
    (record {
      from_first = moving.from_first;
      opened = moving.opened;
      kept = λ d there t stamp succ pred over commits. among_keep c.transactions_move_totals.ensures low high n (steps_of t) (moving.kept d there t stamp succ pred over commits);
    })
    begins order in_order
