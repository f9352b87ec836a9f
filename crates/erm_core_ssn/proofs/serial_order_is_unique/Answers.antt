use Rattle.erm_model.specs.History.{rank_of}
use Rattle.erm_model.specs.Committed as committed
use Rattle.erm_core_ssn.proofs.OneOrder.{some_order, one_order}
use Rattle.erm_core_ssn.proofs.serial_order_is_unique.Goals as goal

pub returns-clause-exists : goal.returns-clause-exists
returns-clause-exists c = λ h certified. some_order rank_of h certified.differ

pub returns-clause-unique : goal.returns-clause-unique
returns-clause-unique c = one_order

pub returns-clause-exists_for_sessions : goal.returns-clause-exists_for_sessions
returns-clause-exists_for_sessions c = λ commits differ. some_order committed.rank_of commits differ

pub returns-clause-unique_for_sessions : goal.returns-clause-unique_for_sessions
returns-clause-unique_for_sessions c = λ commits one other first second. one_order committed.rank_of commits one other first second
