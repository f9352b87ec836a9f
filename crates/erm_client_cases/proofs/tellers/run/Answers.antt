use Rattle.erm_tellers.specs.Tellers.{IsOfTellers}
use Rattle.erm_client_cases.proofs.Handed.{none_committed}
use Rattle.erm_client_cases.proofs.tellers.run.Goals as goal

pub first_other-other-requires-clause-first_kept : goal.first_other-other-requires-clause-first_kept
first_other-other-requires-clause-first_kept g c = none_committed IsOfTellers 1 _ c.two-first.ensures.unasked.0

pub first_other-other-requires-clause-second_kept : goal.first_other-other-requires-clause-second_kept
first_other-other-requires-clause-second_kept g c = none_committed IsOfTellers 2 _ c.two-first.ensures.unasked.1
