use Rattle.erm_desk.proofs.TakenIn.{taken_in}
use Rattle.erm_desk.proofs.laws.desks_take_in.Goals as goal

pub returns : goal.returns
returns g c o began first s e desk takes = taken_in c.decided_blocks_stay.ensures.event g.L.RowLaw.law o began first s e desk takes
