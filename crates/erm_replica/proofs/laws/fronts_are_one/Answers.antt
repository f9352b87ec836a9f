use Rattle.erm_replica.proofs.Fronts.{not_both, not_short, not_unreadable, one_part}
use Rattle.erm_replica.proofs.Sizes.{part_announced}
use Rattle.erm_replica.proofs.laws.fronts_are_one.Goals as goal

pub returns-clause-part : goal.returns-clause-part
returns-clause-part c = one_part c.one_slot.ensures.words c.one_spelling.ensures

pub returns-clause-short : goal.returns-clause-short
returns-clause-short c = not_short (part_announced c.slots_are_bounded.ensures.most c.spelling_size.ensures.size c.spelling_size.ensures.most)

pub returns-clause-unreadable : goal.returns-clause-unreadable
returns-clause-unreadable c = not_unreadable (part_announced c.slots_are_bounded.ensures.most c.spelling_size.ensures.size c.spelling_size.ensures.most)

pub returns-clause-either : goal.returns-clause-either
returns-clause-either c = not_both (part_announced c.slots_are_bounded.ensures.most c.spelling_size.ensures.size c.spelling_size.ensures.most)
