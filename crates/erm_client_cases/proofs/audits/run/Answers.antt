use Rattle.erm_tellers.specs.Tellers.{IsOfTellers}
use Rattle.erm_client_cases.proofs.Handed.{none_committed}
use Rattle.erm_client_cases.proofs.audits.run.Goals as goal

pub first_other-other-requires-clause-kept : goal.first_other-other-requires-clause-kept
first_other-other-requires-clause-kept g c = none_committed IsOfTellers 2 _ c.two-first.ensures.unasked.1
