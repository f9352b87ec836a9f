use Rattle.erm_core_stall.proofs.Ending.{not_for_ever, turn_kept}
use Rattle.erm_core_stall.proofs.turns_end.Goals as goal

pub returns-clause-ends : goal.returns-clause-ends
returns-clause-ends c run on = not_for_ever run on

pub returns-clause-kept : goal.returns-clause-kept
returns-clause-kept c core d other kind ne e = turn_kept core d other kind ne e
