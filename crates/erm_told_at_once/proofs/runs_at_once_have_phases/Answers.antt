use Rattle.erm_good_report.specs.Phases.{PhasesAgree}
use Rattle.erm_lines_at_once.proofs.Parts.{whole_of}
use Rattle.erm_told_at_once.proofs.runs_at_once_have_phases.Goals as goal

pub returns : goal.returns
returns c = whole_of (λ opening whole part answers told. PhasesAgree part answers) c.runs_in_part_are_told.ensures.phases
