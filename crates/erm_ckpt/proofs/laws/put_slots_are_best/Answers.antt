use Rattle.erm_ckpt.proofs.Choices.{best_put, slots_put}
use Rattle.erm_ckpt.proofs.laws.put_slots_are_best.Goals as goal

pub returns-clause-best : goal.returns-clause-best
returns-clause-best c = best_put

pub returns-clause-slots : goal.returns-clause-slots
returns-clause-slots c = slots_put
