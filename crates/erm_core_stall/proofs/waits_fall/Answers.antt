use Rattle.erm_core_stall.proofs.Down.{falls, no_circle}
use Rattle.erm_core_stall.proofs.waits_fall.Goals as goal

pub returns-clause-fall : goal.returns-clause-fall
returns-clause-fall c core a b sound w = falls core sound a b w

pub returns-clause-no_circle : goal.returns-clause-no_circle
returns-clause-no_circle c core n a sound w = no_circle core sound n a w
