use Rattle.erm_run_at_once.proofs.Split.{are_split}
use Rattle.erm_run_at_once.proofs.ran.scripts_are_split.Goals as goal

pub returns : goal.returns
returns c = are_split
