use Rattle.erm_good_report.specs.Phases.{PhasesAgree}
use Rattle.erm_told.proofs.Courses.{of_parts}
use Rattle.erm_told.proofs.Runs.{phases}
use Rattle.erm_told.proofs.parts_have_phases.Goals as goal

pub returns : goal.returns
returns c = of_parts (λ opening script answers closed told. PhasesAgree script answers)
    (phases c.executions_tell_sessions.ensures c.executions_go_on.ensures)
