use Rattle.erm_client_invariant.proofs.Ranked.{have_place}
use Rattle.erm_client_invariant.proofs.laws.snapshots_have_their_place.Goals as goal

pub returns : goal.returns
returns c = have_place c.runs_at_once_tell.ensures
