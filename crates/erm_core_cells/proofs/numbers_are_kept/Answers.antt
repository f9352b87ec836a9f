use Rattle.erm_core_cells.proofs.NumbersKept.{kept}
use Rattle.erm_core_cells.proofs.numbers_are_kept.Goals as goal

pub returns-clause-counters : goal.returns-clause-counters
returns-clause-counters c core d seat kind sound e = (kept core seat kind d sound e).counters

pub returns-clause-seats : goal.returns-clause-seats
returns-clause-seats c core d seat kind sound e = (kept core seat kind d sound e).made

pub returns-clause-pairs : goal.returns-clause-pairs
returns-clause-pairs c core d seat kind sound e = (kept core seat kind d sound e).apart
