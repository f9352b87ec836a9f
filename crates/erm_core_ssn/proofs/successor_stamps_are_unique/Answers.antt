use Rattle.erm_core_ssn.proofs.SomeNumbers.{some_numbers}
use Rattle.erm_core_ssn.proofs.Successors.{one_numbering}
use Rattle.erm_core_ssn.proofs.successor_stamps_are_unique.Goals as goal

pub returns-clause-exists : goal.returns-clause-exists
returns-clause-exists c = some_numbers

pub returns-clause-unique : goal.returns-clause-unique
returns-clause-unique c = one_numbering
