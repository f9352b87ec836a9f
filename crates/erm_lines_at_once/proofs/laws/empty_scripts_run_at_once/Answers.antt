use Rattle.erm_lines_at_once.proofs.Opened.{nothing_runs}
use Rattle.erm_lines_at_once.proofs.laws.empty_scripts_run_at_once.Goals as goal

pub returns : goal.returns
returns c = nothing_runs
