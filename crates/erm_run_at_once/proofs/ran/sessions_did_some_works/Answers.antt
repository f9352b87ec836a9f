use Rattle.erm_run_at_once.proofs.Worked.{did_some_works}
use Rattle.erm_run_at_once.proofs.ran.sessions_did_some_works.Goals as goal

pub returns : goal.returns
returns c = did_some_works c.shown_worlds_may_end.ensures
