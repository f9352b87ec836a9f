use Rattle.erm_told_log_at_once.proofs.Whole.{runs_flushed}
use Rattle.erm_told_log_at_once.proofs.runs_at_once_tell_flushed.Goals as goal

pub returns : goal.returns
returns c = runs_flushed
