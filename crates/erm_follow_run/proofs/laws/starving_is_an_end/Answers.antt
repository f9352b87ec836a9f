use Rattle.erm_follow_run.proofs.Ending.{starved_first}
use Rattle.erm_follow_run.proofs.laws.starving_is_an_end.Goals as goal

pub returns : goal.returns
returns c = starved_first (c.takes_go_on.ensures.first 8)
