use Rattle.erm_core_safe.proofs.Sessions.{waits_for}
use Rattle.erm_core_safe.proofs.snapshots_wait_for_other_sessions.Goals as goal

pub returns : goal.returns
returns g c p next sound at some below = waits_for c p next sound at some below
