use Rattle.erm_ckpt.proofs.Choices.{first_left_low}
use Rattle.erm_ckpt.proofs.laws.next_first_is_low.Goals as goal

pub returns : goal.returns
returns c = λ slots stamp. first_left_low slots.slot0 slots.slot1 stamp
