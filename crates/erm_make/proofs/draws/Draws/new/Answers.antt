use Rattle.erm_make.proofs.Drawing.{state_after-none}
use Rattle.erm_make.proofs.draws.Draws.new.Goals as goal

pub returns : goal.returns
returns c = state_after-none
