use Rattle.erm_tellers.specs.Tellers.{IsOfTellers}
use Rattle.erm_client_cases.proofs.Handed.{none_committed}
use Rattle.erm_client_cases.proofs.skew.on_engine.Goals as goal

pub withdraw-seen-requires-clause-first_kept : goal.withdraw-seen-requires-clause-first_kept
withdraw-seen-requires-clause-first_kept g c = none_committed IsOfTellers 1 _ c.two-first.ensures.unasked.0

pub withdraw-seen-requires-clause-second_kept : goal.withdraw-seen-requires-clause-second_kept
withdraw-seen-requires-clause-second_kept g c = none_committed IsOfTellers 2 _ c.two-first.ensures.unasked.1
