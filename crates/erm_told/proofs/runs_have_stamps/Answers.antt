use Rattle.erm_good_report.specs.Opening.{InTurn}
use Rattle.erm_good_report.specs.Stamps.{StampsAgree}
use Rattle.erm_good_report.specs.Transactions.{said_of}
use Rattle.erm_told.proofs.Courses.{of_runs}
use Rattle.erm_told.proofs.Stamping.{stamps}
use Rattle.erm_told.proofs.runs_have_stamps.Goals as goal

pub returns : goal.returns
returns c = of_runs (λ opening script answers closed told. StampsAgree InTurn opening told (said_of script answers))
    (stamps c.executions_tell_sessions.ensures c.executions_go_on.ensures)
