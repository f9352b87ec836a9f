use Rattle.erm_good_report.specs.Transactions.{steps_of}
use Rattle.erm_tellers.proofs.laws.tellers_stay_solvent.Goals as goal

pub returns : goal.returns
returns c v f all closed opening run is tellers solvent order in_order =
    c.invariants_last_for_clients.ensures _ v f all closed opening run is
    (record {
      from_first = tellers.from_first;
      opened = tellers.opened;
      kept = λ d there t stamp succ pred over commits. c.tellers_keep_solvency.ensures (steps_of t) (tellers.kept d there t stamp succ pred over commits);
    })
    solvent order in_order
