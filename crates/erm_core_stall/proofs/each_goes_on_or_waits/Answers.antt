use Rattle.erm_core_stall.proofs.Going.{goes_or_waits}
use Rattle.erm_core_stall.proofs.Looks.{not_both}
use Rattle.erm_core_stall.proofs.Turning.{turns}
use Rattle.erm_core_stall.proofs.each_goes_on_or_waits.Goals as goal

pub returns-clause-seats : goal.returns-clause-seats
returns-clause-seats c core p sound up = goes_or_waits core p sound up

pub returns-clause-not_both : goal.returns-clause-not_both
returns-clause-not_both c core p b sound w on = not_both core p sound b w on

pub returns-clause-turns : goal.returns-clause-turns
returns-clause-turns c core sound some = turns core sound some
