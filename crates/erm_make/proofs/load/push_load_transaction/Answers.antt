use Rattle.std.proofs.lemmas.Result.{on_ok_weaker}
use Rattle.erm_make.specs.Workload.{load_transaction}
use Rattle.erm_make.proofs.Steps.{Adds-append, Adds-more, load_transaction-is}
use Rattle.erm_make.proofs.load.push_load_transaction.Goals as goal

pub returns-clause-added : goal.returns-clause-added
returns-clause-added c =
    on_ok_weaker c.push-2.result (λ added. Adds-more (load_transaction c.args.number)
    (Adds-append c.in_ok-push.ensures.added c.in_ok-push_loaded.ensures.added) added (load_transaction-is c.args.number)) c.push-2.ensures.added
