use Rattle.erm_core_view.proofs.Shown.{claims, makes, registers}
use Rattle.erm_core_view.proofs.steps_show_what_they_do.Goals as goal

pub returns-clause-registers : goal.returns-clause-registers
returns-clause-registers g seat c d version at stamp head sound active in_hand e = registers seat c d version at stamp head active in_hand e

pub returns-clause-claims : goal.returns-clause-claims
returns-clause-claims g seat oid number c d at stamp entry sound active in_hand free e = claims seat oid number c d at stamp entry active in_hand free e

pub returns-clause-makes : goal.returns-clause-makes
returns-clause-makes g seat c d sound active low e = makes seat c d active low e
