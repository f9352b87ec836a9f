use Rattle.erm_make.specs.Texts.{lines_but_flushes, requests_but_flushes, script_text}
use Rattle.erm_make.specs.Workload.{names_of, numbered, workload}
use Rattle.erm_make.proofs.Made.{workload_is_script_but_flushes}
use Rattle.erm_make.proofs.laws.workloads_are_read_back.Goals as goal

pub returns : goal.returns
returns c = λ g count sessions names lines some one few fits is.
    c.scripts_have_one_reading.ensures g (script_text (names_of count sessions) (lines_but_flushes (numbered 1 (workload count sessions)))) names (names_of count sessions)
    lines (numbered 1 (requests_but_flushes (workload count sessions))) is (workload_is_script_but_flushes g count sessions some one few fits)
