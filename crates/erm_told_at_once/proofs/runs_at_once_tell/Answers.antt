use Rattle.erm_lines_at_once.proofs.Parts.{in_part}
use Rattle.erm_told_at_once.proofs.runs_at_once_tell.Goals as goal

pub returns : goal.returns
returns c = λ v f script answers closed run. c.runs_in_part_are_told.ensures.tell v f script script answers closed (in_part v f script answers closed run)
