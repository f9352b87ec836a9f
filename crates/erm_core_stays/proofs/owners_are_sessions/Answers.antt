use Rattle.erm_core_stays.proofs.Owning.{run_session}
use Rattle.erm_core_stays.proofs.owners_are_sessions.Goals as goal

pub returns : goal.returns
returns c core d es oid owner number sound run known some owned = run_session c.events_keep_sound.ensures oid owner number known some es core d sound run owned
