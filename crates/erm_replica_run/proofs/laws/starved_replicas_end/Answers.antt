use Rattle.std.proofs.Common.{refl}
use Rattle.erm_replica_run.proofs.Ending.{ends_starved_first}
use Rattle.erm_replica_run.proofs.laws.starved_replicas_end.Goals as goal

pub returns : goal.returns
returns c a starves =
    ends_starved_first c.kept_replicas_answer.ensures.answers c.kept_replicas_answer.ensures.bad c.kept_replicas_answer.ensures.good a 8 refl starves
