use Rattle.std.proofs.lemmas.Result.{on_ok_weaker}
use Rattle.erm_make.specs.Workload.{batch}
use Rattle.erm_make.proofs.Steps.{Adds-append, Adds-more, batch-is}
use Rattle.erm_make.proofs.batches.push_batch.Goals as goal

pub returns-clause-added : goal.returns-clause-added
returns-clause-added c =
    on_ok_weaker c.push_commits.result (λ added. Adds-more (batch c.args.first c.args.size)
    (Adds-append c.in_ok-push_begins.ensures.added c.in_ok-push_all_accesses.ensures.added) added (batch-is c.args.first c.args.size)) c.push_commits.ensures.added
