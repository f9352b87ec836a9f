use Rattle.erm_desk_checkpoint.proofs.TakenIn.{taken_in}
use Rattle.erm_desk_checkpoint.proofs.laws.checkpoint_desks_take_in.Goals as goal

pub returns : goal.returns
returns g c o began faults slots s e kept takes = taken_in c.decided_blocks_stay.ensures.event g.L.RowLaw.law o began faults slots s e kept takes
