use Rattle.erm_core_si.proofs.ClearKept.{kept}
use Rattle.erm_core_si.proofs.looks_stay_true.Goals as goal

pub returns-clause-seats : goal.returns-clause-seats
returns-clause-seats c core d seat kind sound e = (kept core seat kind d sound e).own

pub returns-clause-pairs : goal.returns-clause-pairs
returns-clause-pairs c core d seat kind sound e = (kept core seat kind d sound e).both
