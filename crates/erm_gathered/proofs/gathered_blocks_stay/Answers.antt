use Rattle.erm_gathered.proofs.Lasting.{has_after, has_both, has_later, has_none}
use Rattle.erm_gathered.proofs.gathered_blocks_stay.Goals as goal

pub returns-clause-later : goal.returns-clause-later
returns-clause-later c from to words core d later has = has_later c.decided_blocks_stay.ensures.event from to words core d later has

pub returns-clause-after : goal.returns-clause-after
returns-clause-after c from to words b e goes has core is = has_after c.decided_blocks_stay.ensures.event from to words b e goes has core is

pub returns-clause-none : goal.returns-clause-none
returns-clause-none c place core = has_none place core

pub returns-clause-both : goal.returns-clause-both
returns-clause-both c from mid to first second core one two = has_both c.decided_blocks_stay.ensures.behind from mid to first second core one two
