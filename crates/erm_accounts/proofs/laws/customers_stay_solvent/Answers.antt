use Rattle.std.proofs.lemmas.List.Elements.{All-weaker}
use Rattle.erm_invariant.specs.Invariant.{Keeps}
use Rattle.erm_accounts.specs.Accounts.{AreSolvent, IsOfBank}
use Rattle.erm_accounts.proofs.laws.customers_stay_solvent.Goals as goal

pub returns : goal.returns
returns c m n transactions solvent are runs =
    c.invariants_last.ensures (record {}) m n transactions solvent (All-weaker IsOfBank (Keeps AreSolvent) c.transactions_keep_solvency.ensures transactions are) runs
