-- Each transaction that a run so far tells shows the causes of how it ended.
use Rattle.std.proofs.Common.{ap, sym}
use Rattle.std.specs.Prelude.{◌++◌}
use Rattle.erm_model.specs.Member.{◌∈◌}
use Rattle.erm_world.specs.World as world
use Rattle.erm_good_report.specs.Causes.{HasCauseOf}
use Rattle.erm_good_report.specs.GoodReport.{places_of}
use Rattle.erm_good_report.specs.Transactions.{Transaction}
use Rattle.erm_lines.specs.Executions.{line_moves}
use Rattle.erm_lines.specs.Laws.{ExecutionsTell, OfCourses}
use Rattle.erm_told.proofs.Runs.{tells_report}
use Rattle.erm_causes.specs.Laws.{RunsTouchTables}
use Rattle.erm_causes.proofs.Causes.{causes_of}
use Rattle.erm_causes.proofs.Moves.{session_before}
use Rattle.erm_causes.proofs.Runs.{whole_run}
use Rattle.erm_causes.proofs.Tables.{run_holds, run_opening}

pub end_causes : RunsTouchTables → ExecutionsTell → OfCourses (λ opening script answers closed told. (t : Transaction) → t ∈ told → HasCauseOf t.ending told t)
end_causes touch tell v t script answers run closed opening are starts =
    let moves = line_moves script answers ++ run.closing in
    let whole = whole_run v t script answers run closed are in
    let same = run_opening moves v t whole in
    let touched = touch v t script answers run closed are in
    causes_of t v.opening.sessions (places_of script answers closed) touched.0 (run_holds moves v t run.opened.serializable whole) (ap (λ (o : world.Opening). o.sessions) (sym same))
    (λ seat session. tells_report v t script answers run closed are tell seat (session_before v t seat same session))
    (λ seat session. touched.2 seat (session_before v t seat same session))
