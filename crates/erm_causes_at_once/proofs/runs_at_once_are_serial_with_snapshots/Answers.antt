use Rattle.erm_lines_at_once.proofs.Parts.{in_part}
use Rattle.erm_causes_at_once.proofs.runs_at_once_are_serial_with_snapshots.Goals as goal

pub returns : goal.returns
returns c = λ v f script answers closed opening run of few.
    c.runs_in_part_have_safe_snapshots.ensures.serial v f script script answers closed opening (in_part v f script answers closed run) of few
