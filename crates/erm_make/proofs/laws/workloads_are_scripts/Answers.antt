use Rattle.erm_make.proofs.Made.{workload_is_script, workload_is_script_but_flushes}
use Rattle.erm_make.proofs.laws.workloads_are_scripts.Goals as goal

pub returns-clause-whole : goal.returns-clause-whole
returns-clause-whole c = workload_is_script

pub returns-clause-but_flushes : goal.returns-clause-but_flushes
returns-clause-but_flushes c = workload_is_script_but_flushes
