use Rattle.erm_good_at_once.proofs.OfCases.{hole_is_refused, out_of_phase_is_refused}
use Rattle.erm_good_at_once.proofs.laws.bad_cuts_are_refused.Goals as goal

pub returns-clause-hole : goal.returns-clause-hole
returns-clause-hole c = hole_is_refused

pub returns-clause-phase : goal.returns-clause-phase
returns-clause-phase c = out_of_phase_is_refused
