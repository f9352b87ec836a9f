use Rattle.erm_core_safe.proofs.Sessions.{back_session}
use Rattle.erm_core_safe.proofs.only_sessions_go_back.Goals as goal

pub returns : goal.returns
returns g c q sound some = back_session c sound q some
