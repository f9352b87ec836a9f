use Rattle.erm_tellers.proofs.Behind.{gave_up, goes}
use Rattle.erm_tellers.proofs.audits.look_once.Goals as goal

pub returns-in-Err-clause-on : goal.returns-in-Err-clause-on
returns-in-Err-clause-on g c = goes c.look.ensures.on c.give_up.ensures.on

pub returns-in-Err-clause-ended : goal.returns-in-Err-clause-ended
returns-in-Err-clause-ended g c = gave_up c.in-Err.ensures.held_up c.give_up.ensures.went c.give_up.ensures.aborts
