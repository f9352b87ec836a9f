use Rattle.erm_told_log_at_once.proofs.Cuts.{cuts_flushed}
use Rattle.erm_told_log_at_once.proofs.cut_runs_tell_flushed.Goals as goal

pub returns : goal.returns
returns c = cuts_flushed
