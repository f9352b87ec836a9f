use Rattle.erm_script.proofs.Faults.{no_fault}
use Rattle.erm_script.proofs.laws.lines_of_scripts_have_no_fault.Goals as goal

pub returns : goal.returns
returns c = no_fault
