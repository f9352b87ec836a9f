use Rattle.std.proofs.Common.{List, ◌++◌, ◌∷◌, [], IfErr, IfOk, OnOk, subst}
use Rattle.erm_accounts.specs.Accounts.{Account, reads}
use Rattle.erm_client.specs.Dealings.{IsAt}
use Rattle.erm_model.specs.Run.{Step}
use Rattle.erm_tellers.proofs.dealing.read_beside.Goals as goal
use Rattle.erm_tellers.specs.Plans.{IsDone, gets}
use Rattle.erm_tellers.specs.Tries.{Refuses}

pub returns-clause-done : goal.returns-clause-done
returns-clause-done g c = subst (λ (x : Account). OnOk c.read.result (IsDone (gets x c.args.customer) (g.X.Transactions.transcript c.args.client.now) (g.X.Transactions.transcript c.read.new.client))) c.beside.ensures c.read.ensures.done

pub returns-clause-at : goal.returns-clause-at
returns-clause-at g c =
    subst (λ (x : Account). IfOk c.read.result (λ value. (steps : List Step) → IsAt (g.X.Transactions.transcript c.args.client.now) steps
    → IsAt (g.X.Transactions.transcript c.read.new.client) (steps ++ reads x c.args.customer value ∷ []))) c.beside.ensures c.read.ensures.at

pub returns-clause-err : goal.returns-clause-err
returns-clause-err g c =
    subst (λ (x : Account). IfErr c.read.result (λ why. Refuses (gets x c.args.customer) why (g.X.Transactions.transcript c.args.client.now) (g.X.Transactions.transcript c.read.new.client))) c.beside.ensures c.read.ensures.err
