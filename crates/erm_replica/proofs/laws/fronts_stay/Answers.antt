use Rattle.erm_replica.proofs.Fronts.{part_stays, unreadable_stays}
use Rattle.erm_replica.proofs.Sizes.{part_announced}
use Rattle.erm_replica.proofs.laws.fronts_stay.Goals as goal

pub returns-clause-part : goal.returns-clause-part
returns-clause-part c = part_stays (part_announced c.slots_are_bounded.ensures.most c.spelling_size.ensures.size c.spelling_size.ensures.most)

pub returns-clause-unreadable : goal.returns-clause-unreadable
returns-clause-unreadable c = unreadable_stays (part_announced c.slots_are_bounded.ensures.most c.spelling_size.ensures.size c.spelling_size.ensures.most)
