use Rattle.erm_core_ring.proofs.Kept.{kept}
use Rattle.erm_core_ring.proofs.log_is_kept.Goals as goal

pub returns-clause-shared : goal.returns-clause-shared
returns-clause-shared c core d seat kind sound e = (kept core seat kind d sound e).shared

pub returns-clause-seats : goal.returns-clause-seats
returns-clause-seats c core d seat kind sound e = (kept core seat kind d sound e).seats
