use Rattle.erm_world_stall.proofs.Down.{falls, no_circle}
use Rattle.erm_world_stall.proofs.session_waits_fall.Goals as goal

pub returns-clause-fall : goal.returns-clause-fall
returns-clause-fall c v p q w = falls v p q w

pub returns-clause-no_circle : goal.returns-clause-no_circle
returns-clause-no_circle c v n p w = no_circle v n p w
