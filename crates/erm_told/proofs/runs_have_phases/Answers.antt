use Rattle.erm_good_report.specs.Phases.{PhasesAgree}
use Rattle.erm_told.proofs.Courses.{of_runs}
use Rattle.erm_told.proofs.Runs.{phases}
use Rattle.erm_told.proofs.runs_have_phases.Goals as goal

pub returns : goal.returns
returns c = of_runs (λ opening script answers closed told. PhasesAgree script answers)
    (phases c.executions_tell_sessions.ensures c.executions_go_on.ensures)
