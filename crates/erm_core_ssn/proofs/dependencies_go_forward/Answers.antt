use Rattle.erm_core_ssn.proofs.Forward.{goes_forward, goes_forward_by_place}
use Rattle.erm_core_ssn.proofs.dependencies_go_forward.Goals as goal

pub returns-clause-ranks : goal.returns-clause-ranks
returns-clause-ranks c = goes_forward

pub returns-clause-places : goal.returns-clause-places
returns-clause-places c = goes_forward_by_place
