use Rattle.erm_ckpt.proofs.Choices.{best_slot}
use Rattle.erm_ckpt.proofs.laws.best_slots_are_of_best_checkpoints.Goals as goal

pub returns : goal.returns
returns c = best_slot
