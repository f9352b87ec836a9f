use Rattle.erm_told_log_at_once.proofs.Cuts.{cuts_cut_few}
use Rattle.erm_told_log_at_once.proofs.cut_runs_cut_few.Goals as goal

pub returns : goal.returns
returns c = cuts_cut_few
