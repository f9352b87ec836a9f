use Rattle.erm_core_ring.proofs.Begins.{begins_kept}
use Rattle.erm_core_ring.proofs.begins_stay_at_ends.Goals as goal

pub returns : goal.returns
returns c core d seat kind sound at e = begins_kept core seat kind d sound at e
