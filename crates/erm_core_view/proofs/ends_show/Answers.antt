use Rattle.erm_core_view.proofs.Aborts.{abort_rests, aborts}
use Rattle.erm_core_view.proofs.ends_show.Goals as goal

pub returns-clause-aborts : goal.returns-clause-aborts
returns-clause-aborts g sessions seat c sound session active may = aborts seat c sound session active may sessions

pub returns-clause-rests : goal.returns-clause-rests
returns-clause-rests g seat c sound session active may = abort_rests seat c sound session active may
