use Rattle.erm_report_at_once.proofs.Good.{are_good}
use Rattle.erm_report_at_once.proofs.runs_at_once_are_good.Goals as goal

pub returns : goal.returns
returns c = are_good c.runs_at_once_report_well.ensures c.runs_at_once_have_tight_windows.ensures
