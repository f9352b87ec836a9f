use Rattle.erm_log_run.proofs.Alike.{close_alike}
use Rattle.erm_log_run.proofs.laws.sessions_close_alike.Goals as goal

pub returns : goal.returns
returns c = close_alike
