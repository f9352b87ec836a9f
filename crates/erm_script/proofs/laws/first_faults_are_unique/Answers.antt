use Rattle.erm_script.proofs.BadLines.{first_fault-unique, first_bad_line-unique}
use Rattle.erm_script.proofs.laws.first_faults_are_unique.Goals as goal

pub returns-clause-kind : goal.returns-clause-kind
returns-clause-kind c = first_fault-unique

pub returns-clause-line : goal.returns-clause-line
returns-clause-line c = first_bad_line-unique
