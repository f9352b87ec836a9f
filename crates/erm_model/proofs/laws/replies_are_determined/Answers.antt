use Rattle.erm_model.proofs.Determined.{replies_determined}
use Rattle.erm_model.proofs.laws.replies_are_determined.Goals as goal

pub returns : goal.returns
returns c = replies_determined
