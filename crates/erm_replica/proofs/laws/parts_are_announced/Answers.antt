use Rattle.erm_replica.proofs.Sizes.{part_announced}
use Rattle.erm_replica.proofs.laws.parts_are_announced.Goals as goal

pub returns : goal.returns
returns c = part_announced c.slots_are_bounded.ensures.most c.spelling_size.ensures.size c.spelling_size.ensures.most
