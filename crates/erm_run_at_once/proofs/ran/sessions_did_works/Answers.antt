use Rattle.erm_run_at_once.proofs.Worked.{did_works}
use Rattle.erm_run_at_once.proofs.ran.sessions_did_works.Goals as goal

pub returns : goal.returns
returns c = did_works c.shown_worlds_may_end.ensures
