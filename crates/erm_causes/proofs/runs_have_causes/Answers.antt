use Rattle.erm_model.specs.Member.{◌∈◌}
use Rattle.erm_good_report.specs.Causes.{HasCauseOf}
use Rattle.erm_good_report.specs.Transactions.{Transaction}
use Rattle.erm_told.proofs.Courses.{of_runs}
use Rattle.erm_causes.proofs.Ended.{end_causes}
use Rattle.erm_causes.proofs.runs_have_causes.Goals as goal

pub returns : goal.returns
returns c = of_runs (λ opening script answers closed told. (t : Transaction) → t ∈ told → HasCauseOf t.ending told t)
    (end_causes c.runs_touch_tables.ensures c.executions_tell_sessions.ensures)
