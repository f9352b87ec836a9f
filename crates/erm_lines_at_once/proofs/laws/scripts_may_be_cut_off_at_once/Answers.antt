use Rattle.erm_lines_at_once.proofs.Opened.{nothing_is_answered}
use Rattle.erm_lines_at_once.proofs.laws.scripts_may_be_cut_off_at_once.Goals as goal

pub returns : goal.returns
returns c = nothing_is_answered
