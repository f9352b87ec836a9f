use Rattle.erm_core_back.proofs.Kept.{kept}
use Rattle.erm_core_back.proofs.backs_are_kept.Goals as goal

pub returns-clause-seats : goal.returns-clause-seats
returns-clause-seats c core d seat kind sound e = (kept core seat kind d sound e).own

pub returns-clause-pairs : goal.returns-clause-pairs
returns-clause-pairs c core d seat kind sound e = (kept core seat kind d sound e).both
