use Rattle.std.proofs.lemmas.Result.{on_ok_weaker}
use Rattle.erm_make.specs.Workload.{load}
use Rattle.erm_make.proofs.Steps.{Adds-more, load-is}
use Rattle.erm_make.proofs.load.push_load.Goals as goal

pub returns-clause-added : goal.returns-clause-added
returns-clause-added c =
    on_ok_weaker c.push.result (λ added. Adds-more load c.in_ok-push_loads.ensures.added added load-is) c.push.ensures.added
