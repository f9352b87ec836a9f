use Rattle.erm_core_ssn.proofs.DecidedKept.{kept}
use Rattle.erm_core_ssn.proofs.machine.decisions_are_kept.Goals as goal

pub returns-clause-shared : goal.returns-clause-shared
returns-clause-shared c core d seat kind sound e = (kept core seat kind d sound e).shared

pub returns-clause-seats : goal.returns-clause-seats
returns-clause-seats c core d seat kind sound e = (kept core seat kind d sound e).own

pub returns-clause-pairs : goal.returns-clause-pairs
returns-clause-pairs c core d seat kind sound e = (kept core seat kind d sound e).both
