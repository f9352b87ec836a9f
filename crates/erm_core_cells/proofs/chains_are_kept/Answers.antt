use Rattle.erm_core_cells.proofs.ChainsKept.{kept}
use Rattle.erm_core_cells.proofs.chains_are_kept.Goals as goal

pub returns-clause-shared : goal.returns-clause-shared
returns-clause-shared c core d seat kind sound e = (kept core seat kind d sound e).chains

pub returns-clause-seats : goal.returns-clause-seats
returns-clause-seats c core d seat kind sound e = (kept core seat kind d sound e).own

pub returns-clause-attached : goal.returns-clause-attached
returns-clause-attached c core d seat kind sound e = (kept core seat kind d sound e).attached
